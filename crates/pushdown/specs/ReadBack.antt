-- What was written is read back, whatever events happen in between.
use Rattle.std.specs.Prelude.{ℕ, Bool, true, false, ◌≡◌, ◌≤◌, ◌<◌, ◌+◌, ◌*◌, ◌^◌, List, [], ◌∷◌, length, take, drop, is_some, Ok}
use Rattle.std.specs.List.{concat, flat_map}
use Rattle.zone_state.specs.declared.status.TheConstants.Status.{SUCCESS}
use Rattle.nvme_entry.specs.Entry.{decoded, identifier_of}
use Rattle.nvme_entry.specs.declared.command.Command.{Command}
use Rattle.nvme_entry.specs.declared.command.Command.TheVariants as commands
use Rattle.nvme_entry.specs.declared.command.LoadCommand.{LoadCommand}
use Rattle.nvme_entry.specs.declared.command.RunCommand.{RunCommand}
use Rattle.nvme_entry.specs.declared.command.StandardCommand.TheVariants.{Write, Read, Append}
use Rattle.nvme_entry.specs.declared.command.TheConstants.{MOST_TRANSFER}
use Rattle.program_interface.specs.declared.area.TheConstants.{SCRATCH_BYTES}
use Rattle.device_meaning.specs.Judging.{Judge}
use Rattle.emit_append.specs.Unpacking.{unpacked}
use Rattle.image_store.specs.Namespace.{zone_at, shape, IsNamespace}
use Rattle.zone_state.specs.State.{is_cleared}
use Rattle.zns_commands.specs.Address.{write_pointer, zone_number}
use Rattle.zns_commands.specs.Effect.{Effect, success_effect}
use Rattle.zns_commands.specs.Left.{Grows}
use Rattle.zns_commands.specs.Meaning.{meaning}
use Rattle.device_meaning.specs.EventReplies.{Happening, completion, submission_of}
use Rattle.device_meaning.specs.BlockRuns.{last_scratch}
use Rattle.device_meaning.specs.Events.{AreEvents, Occurrence, state_after}
use Rattle.pushdown.specs.Laws.{AreEmitted}
use Rattle.device_meaning.specs.Happenings.{commanded, happens}
use Rattle.device_meaning.specs.Outcome.{Turn, appended_by}
use Rattle.pushdown.specs.Pushdown.{IsAdmitted, block_runs, blocks_at, next, own_turns, place}
use Rattle.device_meaning.specs.Reached.{IsReached}
use Rattle.device_meaning.specs.State.{State, holds_at, place_at, uses}
use Rattle.device_events.specs.Replies.{ReplyWithData}
use Rattle.device_events.specs.ToldEvents.{ToldEvent}
use Rattle.device_events.specs.ToldEvents as told

-- the event submits an entry of this command, with these bytes beside it
abbrev pub Submits : ToldEvent → Command → List ℕ → Type 0
Submits (told.Submitted queue entry input) c bytes = (decoded entry ≡ Ok c) × (input ≡ bytes)
Submits (told.Turned run) c bytes = ⊥
Submits (told.Faulted zone state) c bytes = ⊥

-- what happens is that the event's entry is completed with this effect
abbrev pub IsCompleted : ToldEvent → State → Effect → Happening → Type 0
IsCompleted (told.Submitted queue entry input) s effect happening =
    happening ≡ commanded (submission_of queue entry input) s effect
IsCompleted (told.Turned run) s effect happening = ⊥
IsCompleted (told.Faulted zone state) s effect happening = ⊥

-- the event submits a Load of this slot, and the reply is success
abbrev pub LoadSucceeds : ℕ → ToldEvent → ReplyWithData → Type 0
LoadSucceeds slot (told.Submitted queue entry input) reply =
    (load : LoadCommand) × ((decoded entry ≡ Ok (commands.Load load))
    × ((load.slot ≡ slot) × (reply ≡ completion queue (identifier_of entry) SUCCESS 0 0 [])))
LoadSucceeds slot (told.Turned run) reply = ⊥
LoadSucceeds slot (told.Faulted zone state) reply = ⊥

-- each run of a slot that is active before an event is active after it
abbrev pub NoRunEnds : ℕ → State → State → Type 0
NoRunEnds slot s after = (run : ℕ) → uses slot (place_at s run) ≡ true → is_some (place_at after run) ≡ true

module _ (judge : Judge) where
  -- these bytes are read of so many blocks from an address on
  abbrev pub ReadsGive : State → ℕ → ℕ → List ℕ → Type 0
  ReadsGive s lba blocks bytes =
      (read : Occurrence) → Submits read.event (commands.Standard (Read lba blocks)) []
      → IsCompleted read.event s (success_effect s.namespace 0 bytes) (happens judge s read.starved read.event)

  -- these blocks are read from an address on, one block after another
  abbrev pub BlocksAreRead : State → ℕ → List (List ℕ) → Type 0
  BlocksAreRead s lba [] = Unit {0}
  BlocksAreRead s lba (block ∷ blocks) = ReadsGive s lba 1 block × BlocksAreRead s (lba + 1) blocks

  -- after none of the events is the zone Empty or Offline: in these states nothing of what was written is left
  abbrev pub NoEventClears : ℕ → List Occurrence → State → Type 0
  NoEventClears z [] s = Unit {0}
  NoEventClears z (o ∷ os) s =
      let after = (happens judge s o.starved o.event).state in
      (is_cleared (zone_at after.namespace z).state ≡ false) × NoEventClears z os after

  -- these bytes are the result of a slot, which Result gives
  abbrev pub ResultGives : State → ℕ → List ℕ → Type 0
  ResultGives s slot bytes =
      (o : Occurrence) → Submits o.event (commands.Result slot) []
      → IsCompleted o.event s (success_effect s.namespace 0 bytes) (happens judge s o.starved o.event)

  -- at none of the events a run of the slot ends, or a Load of it succeeds, so that its result is left
  abbrev pub NoEventReplaces : ℕ → List Occurrence → State → Type 0
  NoEventReplaces slot [] s = Unit {0}
  NoEventReplaces slot (o ∷ os) s =
      let h = happens judge s o.starved o.event in
      NoRunEnds slot s h.state × ((¬ LoadSucceeds slot o.event h.reply) × NoEventReplaces slot os h.state)

  -- an admitted Run, the events between it and a turn of it, and events after that turn
  module _ (s : State) (queue : ℕ) (entry input : List ℕ) (starved : Bool) (command : RunCommand) (run : ℕ)
      (events later : List Occurrence) where
    -- the zone that it appends to, as the theorem has it
    abbrev pub destination : ℕ
    destination = (place judge s queue entry input starved command run events).destination

    -- the turns that are fixed at its admission
    abbrev pub turns : List Turn
    turns = (place judge s queue entry input starved command run events).turns

    -- the state after that turn
    abbrev pub after_turn : State
    after_turn = (next judge s queue entry input starved command run events).state

    -- the logical block that the first of its blocks goes to
    abbrev pub pointer : ℕ
    pointer = write_pointer s.namespace destination

    -- each part of what its turns have appended, of one block or more and no more than a transfer may be, is read,
    -- from where the destination's end was at admission
    abbrev pub AppendedAreRead : Type 0
    AppendedAreRead =
        let appended = appended_by (take (own_turns run events + 1) turns) in
        (at blocks : ℕ) → at + blocks ≤ length appended → 1 ≤ blocks → blocks * s.namespace.block ≤ MOST_TRANSFER
        → ReadsGive (state_after judge later after_turn) (pointer + at) blocks (concat (take blocks (drop at appended)))

    -- where that turn was the last, the blocks that are read there, one after another, unpack to the records
    -- that the program emitted, in order
    abbrev pub EmittedAreRead : Type 0
    EmittedAreRead =
        let blocks = appended_by turns in
        (records : List (List (List ℕ))) × (AreEmitted (block_runs judge s queue entry input starved command run events) records
        × (BlocksAreRead (state_after judge later after_turn) pointer blocks
        × (unpacked s.namespace.block (concat blocks) ≡ Ok (flat_map (λ group. group) records))))

    -- until the destination is reset or goes offline
    abbrev pub IsReadBack : Type 0
    IsReadBack =
        own_turns run events < length turns → NoEventClears destination later after_turn
        → AppendedAreRead × (own_turns run events + 1 ≡ length turns → EmittedAreRead)

    -- where that turn was the last, the scratch bytes that the last block run left are the result of its slot,
    -- until a run of the slot ends or a Load of it succeeds
    abbrev pub IsResultReadBack : Type 0
    IsResultReadBack =
        let bytes = last_scratch (block_runs judge s queue entry input starved command run events) in
        own_turns run events + 1 ≡ length turns → NoEventReplaces command.slot later after_turn
        → (length bytes ≡ SCRATCH_BYTES) × ResultGives (state_after judge later after_turn) command.slot bytes

-- no event changes the shape of the namespace
abbrev pub EventsKeepShapes : Judge → Type 0
EventsKeepShapes judge =
    (s : State) (events : List Occurrence) → shape (state_after judge events s).namespace ≡ shape s.namespace

-- a zone that isn't cleared keeps its blocks, and perhaps has some behind them
abbrev pub UnclearedZonesKeepBlocks : Judge → Type 0
UnclearedZonesKeepBlocks judge =
    (s : State) (events : List Occurrence) (z : ℕ) → NoEventClears judge z events s
    → Grows (blocks_at s z) (blocks_at (state_after judge events s) z)

-- a Read of written blocks of a zone, no more than a transfer may be, gives them
abbrev pub WrittenIsRead : Judge → Type 0
WrittenIsRead judge =
    (s : State) (z at blocks : ℕ) → IsNamespace s.namespace
    → at + blocks ≤ length (blocks_at s z) → 1 ≤ blocks → blocks * s.namespace.block ≤ MOST_TRANSFER
    → ReadsGive judge s (z * s.namespace.size + at) blocks (concat (take blocks (drop at (blocks_at s z))))

-- what an Append that succeeds put in is read from the address that its completion tells, whatever
-- events happen in between, until the zone is reset or goes offline
abbrev pub AppendedBlocksReadBack : Judge → Type 0
AppendedBlocksReadBack judge =
    (s : State) → IsNamespace s.namespace
    → (o : Occurrence) (lba blocks : ℕ) (input : List ℕ) (events : List Occurrence) → Submits o.event (commands.Standard (Append lba blocks)) input
    → let effect = meaning s.namespace (holds_at s) (Append lba blocks) input in
    let happening = happens judge s o.starved o.event in
    effect.status ≡ SUCCESS → NoEventClears judge (zone_number s.namespace lba) events happening.state
    → IsCompleted o.event s effect happening
    × ReadsGive judge (state_after judge events happening.state) (effect.dw0 + effect.dw1 * 2 ^ 32) blocks input

-- the same of a Write, which is read from its own address
abbrev pub WrittenBlocksReadBack : Judge → Type 0
WrittenBlocksReadBack judge =
    (s : State) → IsNamespace s.namespace
    → (o : Occurrence) (lba blocks : ℕ) (input : List ℕ) (events : List Occurrence) → Submits o.event (commands.Standard (Write lba blocks)) input
    → let effect = meaning s.namespace (holds_at s) (Write lba blocks) input in
    let happening = happens judge s o.starved o.event in
    effect.status ≡ SUCCESS → NoEventClears judge (zone_number s.namespace lba) events happening.state
    → IsCompleted o.event s effect happening × ReadsGive judge (state_after judge events happening.state) lba blocks input

-- the same of what a run appends, in each state that events leave: after each of its turns what it has
-- appended so far, and after the last one all that its program emitted
abbrev pub AppendedByRunsReadsBack : Judge → Type 0
AppendedByRunsReadsBack judge =
    (s : State) → IsReached judge s
    → (queue : ℕ) (entry input : List ℕ) (starved : Bool) (command : RunCommand) (run : ℕ) (events later : List Occurrence)
    → IsAdmitted s (submission_of queue entry input) command run
    → AreEvents events → AreEvents later
    → IsReadBack judge s queue entry input starved command run events later

-- the same of the scratch bytes that the last block run of a run leaves, which Result gives
abbrev pub ResultsReadBack : Judge → Type 0
ResultsReadBack judge =
    (s : State) → IsReached judge s
    → (queue : ℕ) (entry input : List ℕ) (starved : Bool) (command : RunCommand) (run : ℕ) (events later : List Occurrence)
    → IsAdmitted s (submission_of queue entry input) command run
    → IsResultReadBack judge s queue entry input starved command run events later
