-- The pushdown theorem, and what an admitted Run leaves.
use Rattle.std.proofs.Common.{◌≡◌, ◌≢◌, ℕ, zero, suc, ◌+◌, ◌/◌, ◌<◌, ◌≤◌, Bool, List, [], ◌∷◌, slice_get, length, set, get_or, Option, Some, None, refl, ap, sym, subst, ◌∙◌, arith, get_or-set_other, get_or-set_same}
use Rattle.std.specs.Prelude.{IfSome, is_some}
use Rattle.std.specs.List.{AllByRecursion}
use Rattle.std.proofs.lemmas.Nat.{mul-le}
use Rattle.zone_state.specs.State.{is_open}
use Rattle.zone_state.specs.declared.state.ZoneState.TheVariants.{Offline}
use Rattle.zone_state.specs.declared.status.Status.{Status}
use Rattle.zone_state.specs.declared.status.TheConstants.Status.{DESTINATION_NOT_OPEN}
use Rattle.common_definitions.proofs.Proved.{demanded, passed}
use Rattle.nvme_entry.specs.declared.command.Command.TheVariants as commands
use Rattle.nvme_entry.specs.declared.command.RunCommand.{RunCommand}
use Rattle.instruction_set.specs.Program.{instruction_count}
use Rattle.instruction_set.specs.declared.instruction.Instruction.{Instruction}
use Rattle.program_meaning.proofs.Proved.{more_fuel_is_the_same}
use Rattle.program_meaning.specs.BlockRun.{BlockRun, block_run_of}
use Rattle.program_meaning.specs.State as machine
use Rattle.program_meaning.specs.TrapFree.{IsExit}
use Rattle.program_meaning.specs.declared.end.End.{End}
use Rattle.program_meaning.specs.declared.end.End.TheVariants.{OutOfFuel}
use Rattle.device_meaning.specs.Judging.{IsSoundJudge, Judge}
use Rattle.image_store.specs.Namespace.{ZonedNamespace, shape, zone_at}
use Rattle.image_store.proofs.Proved.{blocks_lie_in_zones, written_is_within, zone_room_is_bounded}
use Rattle.device_meaning.specs.Admission.{admission_checks, source_blocks, task_of}
use Rattle.device_meaning.specs.EventReplies.{Happening, Submission, submission_of}
use Rattle.device_events.specs.Replies.{without_data}
use Rattle.device_meaning.specs.BlockRuns.{block_runs_of, no_scratch, start_of}
use Rattle.device_meaning.specs.Events.{Occurrence, state_after}
use Rattle.pushdown.specs.Laws.{AdmittedStarts, StartsRun}
use Rattle.device_meaning.specs.Happenings.{admitted_place, happens, start_by, submitted}
use Rattle.device_meaning.specs.Outcome.{EndsWithLast, Turn, outcome}
use Rattle.pushdown.specs.Pushdown.{ChangesDestinationAlone, DoesItsTurns, IsAdmitted, Pushdown, PushdownFromAnyBeginning, TellsFramesAndBlocks, blocks_at, no_turn, own_turns}
use Rattle.device_meaning.specs.State.{Place, State, free_place, holds_at, loaded_at, new_state, place_at, with_place}
use Rattle.device_events.specs.ToldEvents as told
use Rattle.device_events.specs.declared.reply.Reply.TheVariants as reply
use Rattle.device_meaning.proofs.Proved.{new_may_begin, added_leaves, added_shape, open_on, IsDone, few_frames, few_block_runs, outcome_is_packed, AreApart, event_apart, decoded_has, IsFine, admitted_room, all_exit, all_granted, few_source, reached_fine, ready as is_ready, block_runs_all_done, some_block_run, turns_are, written}
use Rattle.common_definitions.proofs.Proved.{all_from}
use Rattle.pushdown.proofs.TurnsDone.{Next, Ready, Stands, next_is, stand}
use Rattle.pushdown.proofs.OthersEvents.{free_within}

-- ---- a run that is admitted, and the events after it

module _ (judge : Judge) (s : State) (queue : ℕ) (entry input : List ℕ) (command : RunCommand) (run : ℕ) where
  abbrev sub : Submission
  sub = submission_of queue entry input

  abbrev place : Place
  place = admitted_place sub s command

  abbrev begun : Bool → Happening
  begun starved = happens judge s starved (told.Submitted queue entry input)

  started : (starved : Bool) → IsAdmitted s sub command run
      → begun starved ≡ record { reply = without_data (reply.Pending run); state = with_place s run (Some place) }
  started starved admitted =
      ap (submitted judge starved sub s) admitted.asked
      ∙ ap (λ (why : Option Status). start_by why (free_place s) sub s command) admitted.passed
      ∙ ap (λ (free : Option ℕ). start_by None free sub s command) admitted.free

  placed : IsAdmitted s sub command run → get_or (set s.places run (Some place)) run None ≡ Some place
  placed admitted = get_or-set_same s.places run (Some place) None (free_within s.places run admitted.free)

  starts : (starved : Bool) → IsAdmitted s sub command run → StartsRun s sub command run (begun starved)
  starts starved admitted =
      let is = started starved admitted in
      record {
        reply = ap (λ (h : Happening). h.reply) is;
        place = ap (λ (h : Happening). place_at h.state run) is ∙ placed admitted;
        others = λ other differs.
            ap (λ (h : Happening). place_at h.state other) is ∙ get_or-set_other s.places run other (Some place) None differs;
        namespace = ap (λ (h : Happening). h.state.namespace) is;
        slots = ap (λ (h : Happening). h.state.slots) is;
      }

  destination_on : IsAdmitted s sub command run → (zone_at s.namespace place.destination).state ≢ Offline
  destination_on admitted =
      let checks = admission_checks s.namespace (holds_at s) (is_some (free_place s)) (loaded_at s command.slot) command sub.input in
      let state = (zone_at s.namespace place.destination).state in
      open_on state (demanded (is_open state) DESTINATION_NOT_OPEN (passed checks 12 admitted.passed))

  module _ (apart : AreApart s.places) (starved : Bool) (admitted : IsAdmitted s sub command run) (ends : EndsWithLast place.turns) (events : List Occurrence)
      (within : own_turns run events < length place.turns) where
    abbrev first : State
    first = (begun starved).state

    abbrev now : State
    now = state_after judge events first

    abbrev done : ℕ
    done = own_turns run events

    same_namespace : first.namespace ≡ s.namespace
    same_namespace = (starts starved admitted).namespace

    ready : Ready judge run place first place.turns
    ready = record {
      apart = event_apart judge s starved (told.Submitted queue entry input) apart;
      at = (starts starved admitted).place;
      on = subst (λ (ns : ZonedNamespace). (zone_at ns place.destination).state ≢ Offline) (sym same_namespace) (destination_on admitted);
      goes = ends;
    }

    stands : Stands first now run place place.turns done
    stands = stand judge run place events done first place.turns ready refl within

    next : Next now run place place.turns done
    next = next_is first now run place place.turns done stands within

    same_blocks : blocks_at first place.destination ≡ blocks_at s place.destination
    same_blocks = ap (λ (ns : ZonedNamespace). (zone_at ns place.destination).blocks) same_namespace

    does_its_turns : DoesItsTurns judge s queue entry input starved command run events
    does_its_turns = record {
      left = stands.left;
      appended = rw same_blocks at stands.appended;
      does = next.does;
    }

    changes_destination_alone : ChangesDestinationAlone judge s queue entry input starved command run events
    changes_destination_alone =
        let blocks = (get_or place.turns done no_turn).blocks in
        record {
          others = λ z differs.
              ap (λ (ns : ZonedNamespace). zone_at ns z) next.namespace
              ∙ added_leaves now.namespace place.destination z blocks differs;
          shape_kept = ap shape next.namespace ∙ added_shape now.namespace place.destination blocks;
          at_its_end = next.at_its_end;
          other_runs = next.other_runs;
          other_slots = next.other_slots;
          program_left = next.program_left;
          same_blocks = λ ns same_size same_source.
              let of : ℕ → List (List ℕ) → List Turn =
              λ block source. outcome (task_of (record s.namespace { block = block }) (loaded_at s command.slot) command) source in
              ap (λ (block : ℕ). of block (source_blocks ns command)) same_size ∙ ap (of s.namespace.block) same_source;
        }

module _ (judge : Judge) where
  pub admitted_starts : AdmittedStarts judge
  admitted_starts s starved queue entry input command run admitted = starts judge s queue entry input command run starved admitted

-- ---- steps

-- of block runs that all end by EXIT, the one at an index does
exits_at : (runs : List BlockRun) (index : ℕ) → AllByRecursion (λ r. IsExit r.end) runs → IfSome (slice_get runs index) (λ r. IsExit r.end)
exits_at [] index all = tt
exits_at (r ∷ runs) zero all = all.0
exits_at (r ∷ runs) (suc index) all = exits_at runs index all.1

-- what ends by EXIT isn't out of fuel
not_out : (e : End) → IsExit e → e ≢ OutOfFuel
not_out e exit same = subst IsExit same exit

-- a block run that ends by EXIT is the same with more fuel
module _ (program : List (Option Instruction)) (limit more : ℕ) (start : machine.State) where
  abbrev with_fuel : ℕ → BlockRun
  with_fuel fuel = block_run_of program limit fuel 0 start

  with_more : (run : Option BlockRun) → IfSome run (λ r. IsExit r.end) → run ≡ Some (with_fuel (instruction_count program))
      → run ≡ Some (with_fuel (instruction_count program + more))
  with_more run exit same =
      let exits = subst (λ (o : Option BlockRun). IfSome o (λ r. IsExit r.end)) same exit in
      same ∙ ap Some (sym (more_fuel_is_the_same program limit (instruction_count program) more 0 start
      (not_out (with_fuel (instruction_count program)).end exits)))

-- ---- the theorem

module _ (judge : Judge) (sound : IsSoundJudge judge) (block : ℕ) (s : State) (fine : IsFine judge sound block s)
    (queue : ℕ) (entry input : List ℕ) (starved : Bool) (command : RunCommand) (run : ℕ) (events : List Occurrence) where
  abbrev given : Submission
  given = submission_of queue entry input

  tells_frames_and_blocks : IsAdmitted s given command run → TellsFramesAndBlocks judge s queue entry input starved command run events
  tells_frames_and_blocks admitted =
      let none = admitted.passed in
      let ns = s.namespace in
      let task = task_of ns (loaded_at s command.slot) command in
      let source = source_blocks ns command in
      let block_runs = block_runs_of task source in
      let some : 1 ≤ command.blocks = decoded_has entry (commands.Run command) admitted.asked in
      let whole = outcome_is_packed task source (all_exit judge sound block given s command fine none) in
      let frames = few_frames task block_runs (block_runs_all_done judge sound block given s command fine none) in
      let few = few_block_runs task 0 no_scratch source in
      let asked = written judge sound block given s command fine none in
      let from = zone_at ns (command.lba / ns.size) in
      let inside = blocks_lie_in_zones ns.zones (command.lba / ns.size) 0 (omega (arith, asked, some)) in
      let most = written_is_within from.state (length from.blocks) ns.capacity (fine.is.fits (command.lba / ns.size) inside) in
      let limit = (is_ready judge sound block given s command fine none).sizes.fits in
      let product = mul-le (length block_runs) task.sizes.limit ns.capacity ns.block
      (omega (arith, few, few_source ns command, asked, most)) limit in
      let shape = fine.is.shape in
      let room = (admitted_room judge sound block given s command fine none).room in
      record {
        ending = whole.ending (some_block_run judge sound block given s command fine none some);
        frames = omega (arith, frames, product, zone_room_is_bounded shape);
        blocks = omega (arith, room, shape.capacity_most, shape.size_most);
      }

pub from_any_beginning : (judge : Judge) → IsSoundJudge judge → PushdownFromAnyBeginning judge
from_any_beginning judge sound s reached queue entry input starved command run after admitted =
    let sub = submission_of queue entry input in
    let fine = reached_fine judge sound s reached in
    let block = reached.first.namespace.block in
    let task = task_of s.namespace (loaded_at s command.slot) command in
    let block_runs = block_runs_of task (source_blocks s.namespace command) in
    let none = admitted.passed in
    let done = block_runs_all_done judge sound block sub s command fine none in
    let granted = all_granted judge sound block sub s command fine none in
    let exits = all_exit judge sound block sub s command fine none in
    let ends = (turns_are judge sound block sub s command fine none (decoded_has entry (commands.Run command) admitted.asked)).ends in
    record {
      no_turn_traps = record { exits = exits; ends = ends };
      few_steps = record {
        few = all_from (IsDone task) (λ (r : BlockRun). r.steps ≤ instruction_count task.program) (λ r h. h.exits.steps) block_runs done;
        not_cut_off = λ more index below. with_more task.program task.sizes.limit more (start_of task (source_blocks s.namespace command) index)
            (slice_get block_runs index) (exits_at block_runs index exits) (granted index below).from_start;
      };
      stays_in_granted_areas = record {
        from_start = λ index below. (granted index below).from_start;
        keeps = λ index below. (granted index below).keeps;
      };
      changes_destination_alone = changes_destination_alone judge s queue entry input command run fine.apart starved admitted ends after;
      does_its_turns = does_its_turns judge s queue entry input command run fine.apart starved admitted ends after;
      tells_frames_and_blocks = tells_frames_and_blocks judge sound block s fine queue entry input starved command run after admitted;
    }

-- a new device is one that may begin
pub pushdown : (judge : Judge) → IsSoundJudge judge → Pushdown judge
pushdown judge sound s left = from_any_beginning judge sound s (record {
  first = new_state left.namespace;
  events = left.events;
  begins = new_may_begin judge left.namespace left.can_be;
  bytes = left.bytes;
  leaves = left.leaves;
})
