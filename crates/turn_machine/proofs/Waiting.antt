-- Events of others leave a run, and what it does at its next turn.
use Rattle.std.proofs.Common.{◌≡◌, ◌≢◌, ℕ, ◌+◌, ◌/◌, ◌%◌, Bool, true, List, [], ◌∷◌, get_or, Option, Some, None, Result, Ok, Err, refl, ap, sym, subst, ◌∙◌, arith, get_or-set_other}
use Rattle.std.specs.Prelude.{◌&&◌, is_none, nat_lt, option_map}
use Rattle.std.specs.List.{AllByRecursion}
use Rattle.std.proofs.Math.ListN.{get_or-map}
use Rattle.std.proofs.lemmas.List.{get_or_append_left}
use Rattle.std.proofs.lemmas.List.Quantifiers.{position-Some}
use Rattle.zone_state.specs.declared.status.Status.{Status}
use Rattle.nvme_entry.specs.Entry.{decoded}
use Rattle.nvme_entry.specs.declared.command.Command.{Command}
use Rattle.nvme_entry.specs.declared.command.Command.TheVariants as commands
use Rattle.nvme_entry.specs.declared.command.RunCommand.{RunCommand}
use Rattle.instruction_set.specs.declared.instruction.Instruction.{Instruction}
use Rattle.image_store.specs.Geometry.{Shape}
use Rattle.image_store.specs.Namespace.{block_at, zone_at}
use Rattle.device_meaning.specs.Admission.{limit_in, program_in}
use Rattle.device_meaning.specs.BlockRuns.{Task, block_run, goes_on}
use Rattle.device_meaning.specs.EventReplies.{Submission, submission_of}
use Rattle.device_meaning.specs.Events.{Occurrence}
use Rattle.device_meaning.specs.Happenings.{why_not_run}
use Rattle.device_meaning.specs.Judging.{Judge}
use Rattle.device_meaning.specs.Outcome.{Turn}
use Rattle.device_meaning.specs.State.{State, free_place}
use Rattle.device_meaning.specs.View.{Active}
use Rattle.device_events.specs.ToldEvents.{ToldEvent}
use Rattle.device_events.specs.ToldEvents as told
use Rattle.turn_machine.specs.Laws.{TurnsMayWait}
use Rattle.turn_machine.specs.Machine.{Machine, happens_now, machine_after, new_machine, place_without_turns, run_at, run_left, start_now, submitted_now, task_now, turn_by, turn_now, turned_now_at, without_turns}
use Rattle.turn_machine.proofs.Machines.{after_under_way, event_follows, kept, new_under_way}
use Rattle.turn_machine.proofs.UnderWay.{AreUnderWay, IsUnderWay, KeepsNeeds, block_behind, stays_under_way}

-- ---- the turn of a run that keeps what it needs

module _ (m later : Machine) (a : Active) (h : IsUnderWay m.namespace a)
    (keeps : KeepsNeeds m.namespace m.slots later.namespace later.slots a.command) where
  same_task : task_now later a ≡ task_now m a
  same_task =
      let about : List (Option Instruction) → ℕ → ℕ → Task = λ program block limit. record {
        program = program;
        sizes = record { block = block; limit = limit };
        argument = a.command.argument;
        lba = a.command.lba;
        count = a.command.blocks;
      } in
      let was = get_or m.slots a.command.slot None in
      let is = get_or later.slots a.command.slot None in
      ap (λ (program : List (Option Instruction)). about program later.namespace.block (limit_in is)) keeps.program.program
      ∙ ap (λ (limit : ℕ). about (program_in was) later.namespace.block limit) keeps.program.limit
      ∙ ap (λ (block : ℕ). about (program_in was) block (limit_in was)) (ap (λ (x : Shape). x.block) keeps.shape_kept)

  same_block : block_at later.namespace (a.command.lba + a.so_far.index) ≡ block_at m.namespace (a.command.lba + a.so_far.index)
  same_block =
      let now = later.namespace in
      let i = a.so_far.index in
      let lba = a.command.lba in
      let size : now.size ≡ m.namespace.size = ap (λ (x : Shape). x.size) keeps.shape_kept in
      let there = stays_under_way m.namespace m.slots now later.slots a h keeps in
      let old = (zone_at m.namespace (lba / m.namespace.size)).blocks in
      let at = lba % m.namespace.size + i in
      block_behind now lba i (omega (arith, there.left, there.inside))
      ∙ ap (λ (n : ℕ). get_or (zone_at now (lba / n)).blocks (lba % n + i) []) size
      ∙ ap (λ (blocks : List (List ℕ)). get_or blocks at []) keeps.source.is
      ∙ get_or_append_left old keeps.source.more [] at (omega (arith, h.left, h.written))
      ∙ sym (block_behind m.namespace lba i (omega (arith, h.left, h.inside)))

  pub same_turn : turn_now later a ≡ turn_now m a
  same_turn =
      let by : Task → List ℕ → Turn = λ task bytes.
      let run = block_run task a.so_far.index a.so_far.scratch bytes in
      turn_by (goes_on run.end && nat_lt (a.so_far.index + 1) a.command.blocks) task a.so_far run in
      ap (λ (task : Task). by task (block_at later.namespace (a.command.lba + a.so_far.index))) same_task ∙ ap (by (task_now m a)) same_block

-- ---- events of others leave the run

module _ (m : Machine) (run : ℕ) (a : Active) (at : run_at m run ≡ Some a) where
  -- a free place isn't the run's
  not_free : (free : ℕ) → free_place (without_turns m) ≡ Some free → run ≢ free
  not_free free is same =
      let bare : Option Active → _ = option_map (place_without_turns m.namespace) in
      let found = position-Some is_none (without_turns m).places free None is in
      let here = get_or-map bare m.runs run None ∙ ap bare at in
      let none : is_none (get_or (without_turns m).places run None) ≡ true =
      subst (λ (n : ℕ). is_none (get_or (without_turns m).places n None) ≡ true) (sym same) found.1 in
      absurd cc

  started_beside : (why : Option Status) (free : Option ℕ) (sub : Submission) (command : RunCommand) → free_place (without_turns m) ≡ free
      → run_at (start_now why free sub m command).machine run ≡ Some a
  started_beside (Some status) free sub command is = at
  started_beside None None sub command is = at
  started_beside None (Some free) sub command is = get_or-set_other m.runs free run _ None (not_free free is) ∙ at

  turned_beside : (other : ℕ) (there : Option Active) → run ≢ other → run_at (turned_now_at m other there).machine run ≡ Some a
  turned_beside other None differs = at
  turned_beside other (Some b) differs = get_or-set_other m.runs other run (run_left m b (turn_now m b).ending) None differs ∙ at

  module _ (judge : Judge) where
    entry_beside : (starved : Bool) (sub : Submission) (asked : Result Command Status)
        → run_at (submitted_now judge starved sub m asked).machine run ≡ Some a
    entry_beside starved sub (Err status) = at
    entry_beside starved sub (Ok (commands.Standard c)) = at
    entry_beside starved sub (Ok (commands.Load load)) = at
    entry_beside starved sub (Ok (commands.Run command)) =
        started_beside (why_not_run sub (without_turns m) command) (free_place (without_turns m)) sub command refl
    entry_beside starved sub (Ok (commands.Result slot)) = at

    event_beside : (starved : Bool) (e : ToldEvent) → e ≢ told.Turned run → run_at (happens_now judge m starved e).machine run ≡ Some a
    event_beside starved (told.Submitted queue entry input) differs =
        entry_beside starved (submission_of queue entry input) (decoded entry)
    event_beside starved (told.Turned other) differs = turned_beside other (run_at m other) (λ same. differs (ap told.Turned (sym same)))
    event_beside starved (told.Faulted zone state) differs = at

module _ (judge : Judge) where
  pub waits : (events : List Occurrence) (m : Machine) → AreUnderWay m → (run : ℕ) (a : Active) → run_at m run ≡ Some a
      → AllByRecursion (λ o. o.event ≢ told.Turned run) events
      → (run_at (machine_after judge events m) run ≡ Some a) × (turn_now (machine_after judge events m) a ≡ turn_now m a)
  waits [] m under run a at others = (at, refl)
  waits (o ∷ os) m under run a at others =
      let g = happens_now judge m o.starved o.event in
      let follows = event_follows judge m under o.starved o.event in
      let keeps = subst (λ (s : State). KeepsNeeds m.namespace m.slots s.namespace s.slots a.command) follows.state
      (kept judge m under o.starved o.event run a at) in
      let later = waits os g.machine follows.under_way run a (event_beside m run a at judge o.starved o.event others.0) others.1 in
      (later.0, later.1 ∙ same_turn m g.machine a (under run a at) keeps)

pub turns_may_wait : TurnsMayWait
turns_may_wait judge ns before after run a at others =
    let m = machine_after judge before (new_machine ns) in
    waits judge after m (after_under_way judge before (new_machine ns) (new_under_way judge ns)) run a at others
