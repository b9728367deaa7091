-- What holds of each state that events leave.
use Rattle.std.proofs.Common.{◌≡◌, ◌≢◌, ℕ, ◌+◌, ◌/◌, ◌%◌, ◌<◌, ◌≤◌, Bool, true, List, [], ◌∷◌, length, drop, Option, Some, None, Result, Ok, slice_get, refl, ap, sym, subst, ◌∙◌, arith, inl, inr, length-take, length-drop}
use Rattle.std.specs.Prelude.{IfSome, is_some, nat_le}
use Rattle.std.specs.List.{AllByRecursion}
use Rattle.std.proofs.lemmas.Bool.{leb-true}
use Rattle.std.proofs.lemmas.List.{length-map}
use Rattle.std.proofs.lemmas.List.Elements.{All-cons, All-nil}
use Rattle.zone_state.specs.State.{is_open}
use Rattle.zone_state.specs.declared.status.Status.{Status}
use Rattle.zone_state.specs.declared.status.TheConstants.Status.{INVALID_FIELD_IN_COMMAND, NO_SUCH_PROGRAM, SOURCE_NOT_WRITTEN, DESTINATION_NOT_OPEN, DESTINATION_LACKS_ROOM}
use Rattle.zone_resources.specs.Holds.{is_destination}
use Rattle.zone_resources.specs.declared.holds.Holds.{Holds}
use Rattle.common_definitions.specs.Checks.{first_failed}
use Rattle.common_definitions.proofs.Proved.{demanded, passed}
use Rattle.nvme_entry.specs.declared.command.LoadCommand.{LoadCommand}
use Rattle.nvme_entry.specs.declared.command.RunCommand.{RunCommand}
use Rattle.program_interface.specs.BlockSize.{IsBlockSize}
use Rattle.program_interface.specs.RunSizes.{AreSizes, Sizes}
use Rattle.program_meaning.specs.BlockRun.{BlockRun}
use Rattle.program_meaning.specs.TrapFree.{IsExit, NeverTraps}
use Rattle.instruction_set.specs.declared.instruction.Instruction.{Instruction}
use Rattle.common_definitions.proofs.Proved.{all_at, all_drop, all_from, all_set, all_take}
use Rattle.emit_append.specs.Need.{need}
use Rattle.emit_append.specs.PackedLaw.{FitBlock}
use Rattle.emit_append.proofs.Proved.{need_grows, need_is_enough}
use Rattle.common_definitions.specs.Bytes.{AreBytes}
use Rattle.image_store.specs.Geometry.{Shape}
use Rattle.image_store.specs.Namespace.{ZonedNamespace, IsNamespace, zone_at}
use Rattle.image_store.proofs.Proved.{block_most}
use Rattle.zns_commands.specs.Left as kept
use Rattle.zns_commands.specs.Laws.{IsSpelled, NamespaceEvent, after}
use Rattle.zns_commands.proofs.Proved.{held_destinations_are_left, events_keep_namespaces_sound, shapes_are_kept}
use Rattle.accepted_programs.proofs.Proved.{set_known}
use Rattle.device_meaning.specs.Admission.{Loaded, admission_checks, sizes_in, source_blocks, task_of}
use Rattle.device_meaning.specs.EventReplies.{Submission}
use Rattle.device_meaning.specs.BlockRuns.{Task, block_runs_of, groups_of, no_scratch, start_of}
use Rattle.device_meaning.specs.Events.{AreEvents, CarriesBytes, Occurrence, state_after}
use Rattle.device_meaning.specs.Laws.{IsAcceptedIn, IsAppended, RoomIn}
use Rattle.device_meaning.specs.Happenings.{admitted_place, happens, just_loaded, keeping, load_checks, place_left, slots_left, turn_state, turned, why_not_run}
use Rattle.device_meaning.specs.Judging.{IsSoundJudge, Judge, ProgramRefused}
use Rattle.device_meaning.specs.Outcome.{Ending, EndsWithLast, Succeeds, Turn, appended_by, nothing_emitted, outcome}
use Rattle.device_meaning.specs.State.{Place, State, free_place, holds_at, loaded_at, place_at, with_namespace, with_place, with_slot}
use Rattle.device_events.specs.ToldEvents.{ToldEvent}
use Rattle.device_meaning.proofs.Added.{added_block}
use Rattle.device_meaning.proofs.BlockRuns.{IsDone, IsReady, few_block_runs, block_runs_done, some_block_runs}
use Rattle.device_meaning.proofs.Bytes.{AreBlocks, IsBlock, blocks_by_place}
use Rattle.device_meaning.proofs.Changes.{after_event, after_turn}
use Rattle.device_meaning.proofs.FewBlocks.{HasFew, turns_few}
use Rattle.device_meaning.proofs.GrantedAreas.{IsGrantedRun, block_runs_granted}
use Rattle.device_meaning.proofs.Loads.{TakesSlot}
use Rattle.device_meaning.proofs.Outcomes.{HasWhole, ends_with_last, no_groups, outcome_is_packed, turns_whole}
use Rattle.device_meaning.proofs.Places.{AreApart, held_at, left_apart, started_apart}
use Rattle.device_meaning.proofs.TurnsFit.{turn_appended, turn_sound}
use Rattle.device_meaning.proofs.RunsFit.{Rooms, kept_rooms, now_room, turn_rooms}

-- ---- the source

pub zone_are : (ns : ZonedNamespace) (z : ℕ) → IsNamespace ns → AreBlocks ns.block (zone_at ns z).blocks
zone_are ns z is = blocks_by_place ns.block (zone_at ns z).blocks (is.whole z) (is.bytes z)

source_are : (ns : ZonedNamespace) (command : RunCommand) → IsNamespace ns → AreBlocks ns.block (source_blocks ns command)
source_are ns command is =
    let z = command.lba / ns.size in
    let at = command.lba % ns.size in
    all_take (IsBlock ns.block) command.blocks (drop at (zone_at ns z).blocks) (all_drop (IsBlock ns.block) at (zone_at ns z).blocks (zone_are ns z is))

-- a run has no more source blocks than its command tells
pub few_source : (ns : ZonedNamespace) (command : RunCommand) → length (source_blocks ns command) ≤ command.blocks
few_source ns command =
    let blocks = drop (command.lba % ns.size) (zone_at ns (command.lba / ns.size)).blocks in
    omega (arith, length-take command.blocks blocks)

-- ---- groups

pub groups_fit : (task : Task) (block_runs : List BlockRun) → AllByRecursion (IsDone task) block_runs
    → AllByRecursion (λ group. length group ≤ task.sizes.limit) (groups_of block_runs)
groups_fit task [] h = tt
groups_fit task (run ∷ block_runs) h = (h.0.exits.group, groups_fit task block_runs h.1)

-- where the limit is at most a block, the groups of block runs that are done each fit into a block
pub groups_within : (task : Task) (block_runs : List BlockRun) → task.sizes.limit ≤ task.sizes.block → AllByRecursion (IsDone task) block_runs
    → FitBlock task.sizes.block (groups_of block_runs)
groups_within task block_runs less h =
    all_from (λ group. length group ≤ task.sizes.limit) (λ group. length group ≤ task.sizes.block) (λ group fits. omega (arith, less, fits))
    (groups_of block_runs) (groups_fit task block_runs h)

-- ---- states

module _ (judge : Judge) (sound : IsSoundJudge judge) (block : ℕ) where
  abbrev granted : ℕ → Sizes
  granted limit = record { block = block; limit = limit }

  pub record ProgramIsFine (loaded : Loaded) : Type 0 where
    pub bytes : List ℕ
    pub are : AreBytes bytes
    pub sizes : AreSizes (granted loaded.limit)
    pub accepted : judge bytes (granted loaded.limit) ≡ Ok loaded.program

  abbrev pub SlotIsFine : Option Loaded → Type 0
  SlotIsFine slot = IfSome slot ProgramIsFine

  -- turns that append whole blocks, few each, and of which the last ends the run
  pub record AppendWhole (turns : List Turn) : Type 0 where
    pub whole : AllByRecursion (HasWhole block) turns
    pub few : AllByRecursion HasFew turns
    pub ends : EndsWithLast turns

  abbrev pub PlaceIsFine : Option Place → Type 0
  PlaceIsFine at = IfSome at (λ place. AppendWhole place.turns)

  -- a state with a sound namespace, accepted programs, and runs that each append whole blocks to a zone of their own with room for them
  pub record IsFine (s : State) : Type 0 where
    pub is : IsNamespace s.namespace
    pub size : s.namespace.block ≡ block
    pub slots : AllByRecursion SlotIsFine s.slots
    pub places : AllByRecursion PlaceIsFine s.places
    pub apart : AreApart s.places
    pub rooms : Rooms s

  -- ---- commands and faults

  step_fine : (s : State) (step : NamespaceEvent) → IsFine s → kept.holds_of step ≡ holds_at s → IsSpelled step
      → IsFine (with_namespace s (after step s.namespace))
  step_fine s step h same is_spelled =
      let kept_shape = shapes_are_kept step s.namespace in
      record {
        is = events_keep_namespaces_sound (step ∷ []) s.namespace h.is (All-cons IsSpelled step [] is_spelled (All-nil IsSpelled));
        size = ap (λ (x : Shape). x.block) kept_shape ∙ h.size;
        slots = h.slots;
        places = h.places;
        apart = h.apart;
        rooms = kept_rooms s (with_namespace s (after step s.namespace)) refl (ap (λ (x : Shape). x.capacity) kept_shape)
            (λ j p at. held_destinations_are_left step s.namespace p.destination
            (subst (λ (holds : Holds). is_destination holds p.destination ≡ true) (sym same) (held_at s.places j p at))) h.rooms;
      }

  -- ---- Load

  within : (s : State) (load : LoadCommand) (input : List ℕ) → IsFine s → first_failed (load_checks s load input) ≡ None → load.limit ≤ block
  within s load input h none =
      let test = demanded (nat_le load.limit s.namespace.block) INVALID_FIELD_IN_COMMAND (passed (load_checks s load input) 2 none) in
      subst (λ (n : ℕ). load.limit ≤ n) h.size (leb-true load.limit s.namespace.block test)

  taken_accepted : (sub : Submission) (s t : State) (load : LoadCommand) (h : IsFine s) → AreBytes sub.input
      → (takes : TakesSlot judge sub s load t) → ProgramIsFine (just_loaded takes.program load.limit)
  taken_accepted sub s t load h are takes =
      let made : ℕ → Result (List (Option Instruction)) ProgramRefused = λ n. judge sub.input (record { block = n; limit = load.limit }) in
      record {
        bytes = sub.input;
        are = are;
        sizes = record { block_size = subst IsBlockSize h.size h.is.shape.block_size; fits = within s load sub.input h takes.passed };
        accepted = ap made (sym h.size) ∙ takes.accepted;
      }

  load_fine : (sub : Submission) (s t : State) (load : LoadCommand) → IsFine s → AreBytes sub.input → (takes : TakesSlot judge sub s load t)
      → IsFine (with_slot s load.slot (Some (just_loaded takes.program load.limit)))
  load_fine sub s t load h are takes = record {
    is = h.is;
    size = h.size;
    slots = all_set SlotIsFine s.slots load.slot (Some (just_loaded takes.program load.limit)) h.slots (taken_accepted sub s t load h are takes);
    places = h.places;
    apart = h.apart;
    rooms = h.rooms;
  }

  -- ---- Run

  pub slot_ready : (ns : ZonedNamespace) (slot : Option Loaded) (command : RunCommand) → IsNamespace ns → ns.block ≡ block → SlotIsFine slot → is_some slot ≡ true
      → IsReady (task_of ns slot command)
  slot_ready ns None command is size h some = cc
  slot_ready ns (Some loaded) command is size h some = record {
    never = subst (λ (n : ℕ). NeverTraps loaded.program loaded.limit n) (sym size)
        (sound h.bytes (granted loaded.limit) loaded.program h.are h.sizes h.accepted);
    sizes = record { block_size = is.shape.block_size; fits = subst (λ (n : ℕ). loaded.limit ≤ n) (sym size) h.sizes.fits };
    small = omega (arith, block_most is.shape);
  }

  -- a run that no check refuses
  module _ (sub : Submission) (s : State) (command : RunCommand) (h : IsFine s) (none : why_not_run sub s command ≡ None) where
    abbrev pub task : Task
    task = task_of s.namespace (loaded_at s command.slot) command

    abbrev pub source : List (List ℕ)
    source = source_blocks s.namespace command

    abbrev pub block_runs : List BlockRun
    block_runs = block_runs_of task source

    abbrev checks : List (Option Status)
    checks = admission_checks s.namespace (holds_at s) (is_some (free_place s)) (loaded_at s command.slot) command sub.input

    -- its program never traps over blocks of the namespace
    pub ready : IsReady task
    ready =
        let slot = loaded_at s command.slot in
        slot_ready s.namespace slot command h.is h.size (all_at SlotIsFine s.slots command.slot None h.slots tt)
        (demanded (is_some slot) NO_SUCH_PROGRAM (passed checks 1 none))

    -- each of its block runs ends by EXIT, with a group of whole frames, and scratch bytes for the next
    pub block_runs_all_done : AllByRecursion (IsDone task) block_runs
    block_runs_all_done = block_runs_done task ready source (source_are s.namespace command h.is)

    -- each of them is the one from its start, and keeps to the granted areas
    pub all_granted : (index : ℕ) → index < length block_runs → IsGrantedRun task (slice_get block_runs index) (start_of task source index)
    all_granted = block_runs_granted task ready source (source_are s.namespace command h.is)

    -- each of its block runs ends by EXIT
    pub all_exit : AllByRecursion (λ (run : BlockRun). IsExit run.end) block_runs
    all_exit = all_from (IsDone task) (λ (run : BlockRun). IsExit run.end) (λ run done. done.exits.exit) block_runs block_runs_all_done

    -- the range is written
    pub written : command.lba % s.namespace.size + command.blocks ≤ length (zone_at s.namespace (command.lba / s.namespace.size)).blocks
    written =
        let blocks = (zone_at s.namespace (command.lba / s.namespace.size)).blocks in
        let at = command.lba % s.namespace.size in
        leb-true (at + command.blocks) (length blocks) (demanded (nat_le (at + command.blocks) (length blocks)) SOURCE_NOT_WRITTEN (passed checks 9 none))

    some_source : 1 ≤ command.blocks → 1 ≤ length source
    some_source some =
        let blocks = (zone_at s.namespace (command.lba / s.namespace.size)).blocks in
        let at = command.lba % s.namespace.size in
        omega (arith, written, some, length-take command.blocks (drop at blocks), length-drop at blocks)

    -- where it is over some block, it has some block run
    pub some_block_run : 1 ≤ command.blocks → 1 ≤ length block_runs
    some_block_run some = some_block_runs task source (some_source some)

    -- where it is over some block, its turns append whole blocks, few each, and the last of them ends it
    pub turns_are : 1 ≤ command.blocks → AppendWhole (admitted_place sub s command).turns
    turns_are some = record {
      whole = subst (λ (n : ℕ). AllByRecursion (HasWhole n) (outcome task source)) h.size
          (turns_whole s.namespace.block task nothing_emitted block_runs ready.sizes.fits block_runs_all_done (no_groups s.namespace.block));
      few = turns_few s.namespace.block nothing_emitted block_runs;
      ends = ends_with_last task s.namespace.block nothing_emitted block_runs block_runs_all_done (some_block_run some);
    }

    -- no more blocks are appended than were asked for
    few_blocks : length (appended_by (outcome task source)) ≤ need command.blocks task.sizes
    few_blocks =
        let groups = groups_of block_runs in
        let whole = outcome_is_packed task source all_exit in
        let enough = need_is_enough task.sizes groups ready.sizes.fits (groups_fit task block_runs block_runs_all_done) in
        let some_groups = length-map block_runs (λ (run : BlockRun). run.state.group) in
        let few = few_block_runs task 0 no_scratch source in
        let most : length groups ≤ command.blocks = omega (arith, some_groups, few, few_source s.namespace command) in
        let grows = need_grows task.sizes (length groups) command.blocks most in
        let same = ap length whole.blocks in
        omega (arith, same, enough, grows)

    -- what it appends fits into its destination, which is open
    pub admitted_room : RoomIn s.namespace.capacity (zone_at s.namespace (admitted_place sub s command).destination) (admitted_place sub s command).turns
    admitted_room =
        let zone = zone_at s.namespace (admitted_place sub s command).destination in
        let most = length zone.blocks + need command.blocks task.sizes in
        let fits = leb-true most s.namespace.capacity (demanded (nat_le most s.namespace.capacity) DESTINATION_LACKS_ROOM (passed checks 12 none)) in
        record {
          room = omega (arith, few_blocks, fits);
          opened = inl (demanded (is_open zone.state) DESTINATION_NOT_OPEN (passed checks 11 none));
        }

  start_rooms : (sub : Submission) (s : State) (command : RunCommand) (run : ℕ) → IsFine s → why_not_run sub s command ≡ None
      → Rooms (with_place s run (Some (admitted_place sub s command)))
  start_rooms sub s command run h e j p at = elim (set_known s.places run j (Some (admitted_place sub s command)) p at) [
    | inl same ↦
        let equal : admitted_place sub s command ≡ p = cc same.1 in
        subst (λ (q : Place). RoomIn s.namespace.capacity (zone_at s.namespace q.destination) q.turns) equal (admitted_room sub s command h e)
    | inr other ↦ h.rooms j p other.1
  ]

  start_fine : (sub : Submission) (s : State) (command : RunCommand) (run : ℕ) → IsFine s → why_not_run sub s command ≡ None → free_place s ≡ Some run
      → 1 ≤ command.blocks → IsFine (with_place s run (Some (admitted_place sub s command)))
  start_fine sub s command run h passed free some = record {
    is = h.is;
    size = h.size;
    slots = h.slots;
    places = all_set PlaceIsFine s.places run (Some (admitted_place sub s command)) h.places (turns_are sub s command h passed some);
    apart = started_apart sub s command run passed h.apart;
    rooms = start_rooms sub s command run h passed;
  }

  -- ---- turns

  kept_fine : (slot : Option Loaded) (bytes : Option (List ℕ)) → SlotIsFine slot → SlotIsFine (keeping slot bytes)
  kept_fine (Some loaded) (Some bytes) h = record { bytes = h.bytes; are = h.are; sizes = h.sizes; accepted = h.accepted }
  kept_fine (Some loaded) None h = h
  kept_fine None bytes h = h

  slots_fine : (s : State) (place : Place) (ending : Option Ending) → IsFine s → AllByRecursion SlotIsFine (slots_left s place ending)
  slots_fine s place None h = h.slots
  slots_fine s place (Some ending) h =
      let slot = loaded_at s place.slot in
      all_set SlotIsFine s.slots place.slot (keeping slot ending.result) h.slots
      (kept_fine slot ending.result (all_at SlotIsFine s.slots place.slot None h.slots tt))

  left_fine : (place : Place) (turn : Turn) (later : List Turn) (ending : Option Ending) → turn.ending ≡ ending → AppendWhole (turn ∷ later)
      → PlaceIsFine (place_left place later ending)
  left_fine place turn later (Some ending) is are = tt
  left_fine place turn [] None is are = absurd (subst Succeeds is are.ends)
  left_fine place turn (next ∷ turns) None is are = record { whole = are.whole.1; few = are.few.1; ends = are.ends.1 }

  pub place_fine : (s : State) (run : ℕ) → IsFine s → PlaceIsFine (place_at s run)
  place_fine s run h = all_at PlaceIsFine s.places run None h.places tt

  first_fine : (s : State) (run : ℕ) (place : Place) (turn : Turn) (later : List Turn) → IsFine s → place_at s run ≡ Some place
      → place.turns ≡ turn ∷ later → IsFine (turn_state s run place turn later)
  first_fine s run place turn later h here first =
      let ns = s.namespace in
      let are = subst AppendWhole first (subst PlaceIsFine here (place_fine s run h)) in
      record {
        is = turn_sound ns place.destination turn.blocks turn.ending later h.is (subst (λ (n : ℕ). HasWhole n turn) (sym h.size) are.whole.0)
            (now_room s run place turn later h.apart h.rooms here first);
        size = added_block ns place.destination turn.blocks ∙ h.size;
        slots = slots_fine s place turn.ending h;
        places = all_set PlaceIsFine s.places run (place_left place later turn.ending) h.places (left_fine place turn later turn.ending refl are);
        apart = left_apart s.places run place later turn.ending here h.apart;
        rooms = turn_rooms s run place turn later h.apart h.rooms here first;
      }

  -- a turn leaves such a state where it finds one
  pub turn_fine : (s : State) (run : ℕ) → IsFine s → IsFine (turned s run).state
  turn_fine s run h = after_turn IsFine s run h (λ place turn later here first. first_fine s run place turn later h here first)

  -- ---- events

  event_fine : (s : State) (starved : Bool) (e : ToldEvent) → IsFine s → CarriesBytes e → IsFine (happens judge s starved e).state
  event_fine s starved e h has = after_event judge IsFine s starved e (record {
    same = h;
    step = λ step same is. step_fine s step h same (is has);
    load = λ sub load t are takes. load_fine sub s t load h (are has) takes;
    start = λ sub command run passed free some. start_fine sub s command run h passed free some;
    turn = λ run place turn later is here first. first_fine s run place turn later h here first;
  })

  -- events leave such a state where they find one
  pub events_fine : (events : List Occurrence) (s : State) → IsFine s → AreEvents events → IsFine (state_after judge events s)
  events_fine [] s h are = h
  events_fine (o ∷ os) s h are = events_fine os (happens judge s o.starved o.event).state (event_fine s o.starved o.event h are.0) are.1

  -- each loaded program is accepted
  pub programs : (s : State) → IsFine s → (slot : ℕ) (loaded : Loaded) → loaded_at s slot ≡ Some loaded → IsAcceptedIn judge s.namespace loaded
  programs s h slot loaded at =
      let fine = subst SlotIsFine at (all_at SlotIsFine s.slots slot None h.slots tt) in
      let made : ℕ → Result (List (Option Instruction)) ProgramRefused = λ n. judge fine.bytes (record { block = n; limit = loaded.limit }) in
      let accepted = ap made h.size ∙ fine.accepted in
      let fits = subst (λ (n : ℕ). loaded.limit ≤ n) (sym h.size) fine.sizes.fits in
      record {
        bytes = fine.bytes;
        are = fine.are;
        accepted = accepted;
        limit = fits;
        never_traps = sound fine.bytes (sizes_in s.namespace (Some loaded)) loaded.program fine.are
            (record { block_size = h.is.shape.block_size; fits = fits }) accepted;
      }

  -- what the next turn of a run appends is appended
  pub appends : (s : State) → IsFine s → (run : ℕ) (place : Place) (turn : Turn) (later : List Turn) → place_at s run ≡ Some place
      → place.turns ≡ turn ∷ later → turn.blocks ≢ [] → IsAppended s.namespace place.destination turn.blocks
  appends s h run place turn later here first some =
      let are = subst AppendWhole first (subst PlaceIsFine here (place_fine s run h)) in
      turn_appended s.namespace place.destination turn.blocks turn.ending later h.is (subst (λ (n : ℕ). HasWhole n turn) (sym h.size) are.whole.0)
      are.few.0 (now_room s run place turn later h.apart h.rooms here first) some
