-- What events come to, by computing the definitions.
use Rattle.std.proofs.Common.{◌≡◌, ℕ, false, List, [], ◌∷◌, ◌++◌, replicate, Option, refl}
use Rattle.zone_state.specs.declared.state.FaultState.TheVariants.{ReadOnly}
use Rattle.zone_state.specs.declared.state.ZoneState.{ZoneState}
use Rattle.zone_state.specs.declared.state.ZoneState.TheVariants as zone
use Rattle.nvme_entry.specs.Entry.{decoded}
use Rattle.instruction_set.specs.declared.instruction.Instruction.{Instruction}
use Rattle.program_meaning.specs.BlockRun.{block_run_of}
use Rattle.device_meaning.specs.Judging.{Judge}
use Rattle.image_store.specs.Namespace.{ZoneWithBlocks, ZonedNamespace, zone_at}
use Rattle.device_meaning.specs.EventReplies.{Happening, submission_of}
use Rattle.device_events.specs.Replies.{ReplyWithData, without_data}
use Rattle.device_meaning.specs.Draining.{replies_to_turns, state_after_turns}
use Rattle.device_meaning.specs.Happenings.{faulting, submitted, turned}
use Rattle.pushdown.specs.Pushdown.{blocks_at}
use Rattle.device_meaning.specs.State.{State, new_state}
use Rattle.device_events.specs.declared.reply.Reply.TheVariants.{Complete, FaultRefused, Idle, Pending}
use Rattle.pushdown.proofs.Examples.{block_of, entry_of, four_zones, frame, passes, run_entry, sevens, slots_with, twelve_zones, two_zones}

-- a completion to queue 1 with these first dwords, this identifier, and these last two bytes
abbrev pub completes_with : ℕ → ℕ → ℕ → ℕ → ℕ → ReplyWithData
completes_with dw0 dw1 cid low high =
    without_data (Complete 1 (dw0 ∷ 0 ∷ 0 ∷ 0 ∷ dw1 ∷ 0 ∷ 0 ∷ 0 ∷ 0 ∷ 0 ∷ 1 ∷ 0 ∷ cid ∷ 0 ∷ low ∷ high ∷ []) 0)

abbrev pub completes : ℕ → ℕ → ℕ → ReplyWithData
completes cid low high = completes_with 0 0 cid low high

abbrev pub pending : ℕ → ReplyWithData
pending run = without_data (Pending run)

-- a zone in a state, with these blocks
abbrev pub zone_of : ZoneState → List (List ℕ) → ZoneWithBlocks
zone_of state blocks = record { state = state; blocks = blocks }

-- a device with one program in slot 0
abbrev pub device : ZonedNamespace → List (Option Instruction) → ℕ → State
device ns program limit = record (new_state ns) { slots = slots_with program limit }

abbrev state_in : State → ℕ → ZoneState
state_in s z = (zone_at s.namespace z).state

module _ (judge : Judge) where
  -- an entry in queue 1, with the data beside it
  abbrev pub asks : List ℕ → List ℕ → State → Happening
  asks entry input s = submitted judge false (submission_of 1 entry input) s (decoded entry)

  -- entries without data, one after another
  abbrev replies_asked : List (List ℕ) → State → List ReplyWithData
  replies_asked [] s = []
  replies_asked (entry ∷ entries) s = (asks entry [] s).reply ∷ replies_asked entries (asks entry [] s).state

  abbrev state_asked : List (List ℕ) → State → State
  state_asked [] s = s
  state_asked (entry ∷ entries) s = state_asked entries (asks entry [] s).state

  -- ---- a Run is Pending, and so are its turns but the last, which completes it; then there is no such run

  module _ (x y z : List ℕ) where
    abbrev three_blocks : State
    three_blocks = device (four_zones (zone_of zone.Closed (x ∷ y ∷ z ∷ []) ∷ zone_of zone.ExplicitlyOpened [] ∷ zone_of zone.Empty [] ∷ zone_of zone.Empty [] ∷ [])) passes 0

    abbrev admitted : Happening
    admitted = asks (run_entry 7 0 2 8) [] three_blocks

    pub run_is_admitted : admitted.reply ≡ pending 0
    run_is_admitted = refl

    pub turns_end_the_run : replies_to_turns (0 ∷ 0 ∷ 0 ∷ 0 ∷ []) admitted.state ≡ pending 0 ∷ pending 0 ∷ completes 7 0 0 ∷ without_data Idle ∷ []
    unfolding block_run_of
    turns_end_the_run = refl

    pub no_such_run : (turned three_blocks 255).reply ≡ without_data Idle
    no_such_run = refl

  -- ---- a destination that lacks room for what 52 groups can come to

  abbrev nearly_full : State
  nearly_full = device (two_zones (zone_of zone.Closed (replicate 52 (block_of 7)) ∷ zone_of zone.ExplicitlyOpened (replicate 63 (block_of 0)) ∷ [])) sevens 10

  pub room_is_lacking : (asks (run_entry 9 0 51 64) [] nearly_full).reply ≡ completes 9 0x8c 0x0f
  room_is_lacking = refl

  -- ---- two runs, of which one reads from the zone that the other appends to

  abbrev two_runs : State
  two_runs = state_asked (run_entry 1 0 1 8 ∷ run_entry 2 8 1 16 ∷ []) (device (four_zones (
      zone_of zone.Closed (replicate 2 (block_of 7)) ∷ zone_of zone.ImplicitlyOpened (replicate 2 (block_of 7))
      ∷ zone_of zone.ExplicitlyOpened [] ∷ zone_of zone.Empty [] ∷ [])) sevens 10)

  pub turn_about : replies_to_turns (0 ∷ 1 ∷ 0 ∷ 1 ∷ []) two_runs
      ≡ pending 0 ∷ pending 1 ∷ completes_with 2 1 1 0 0 ∷ completes_with 2 1 2 0 0 ∷ []
  unfolding block_run_of
  turn_about = refl

  pub one_before_the_other : replies_to_turns (1 ∷ 1 ∷ 0 ∷ 0 ∷ []) two_runs
      ≡ pending 1 ∷ completes_with 2 1 2 0 0 ∷ pending 0 ∷ completes_with 2 1 1 0 0 ∷ []
  unfolding block_run_of
  one_before_the_other = refl

  -- the block that each run appends
  abbrev two_frames : List ℕ
  two_frames = frame ++ frame ++ replicate 492 0

  pub same_blocks : state_after_turns (0 ∷ 1 ∷ 0 ∷ 1 ∷ []) two_runs ≡ state_after_turns (1 ∷ 1 ∷ 0 ∷ 0 ∷ []) two_runs
  unfolding block_run_of
  same_blocks = refl

  pub first_appends : blocks_at (state_after_turns (0 ∷ 1 ∷ 0 ∷ 1 ∷ []) two_runs) 1 ≡ block_of 7 ∷ block_of 7 ∷ two_frames ∷ []
  unfolding block_run_of
  first_appends = refl

  pub second_appends : blocks_at (state_after_turns (0 ∷ 1 ∷ 0 ∷ 1 ∷ []) two_runs) 2 ≡ two_frames ∷ []
  unfolding block_run_of
  second_appends = refl

  -- ---- what an active run holds

  abbrev holding : State
  holding = state_after_turns (0 ∷ []) (state_asked (run_entry 1 0 1 8 ∷ []) (device (four_zones (
      zone_of zone.Full (replicate 6 (block_of 7)) ∷ zone_of zone.ImplicitlyOpened (block_of 1 ∷ [])
      ∷ zone_of zone.ImplicitlyOpened (block_of 1 ∷ []) ∷ zone_of zone.Empty [] ∷ [])) sevens 10))

  -- Reset of its source, Append to its destination and a fault of its source are refused,
  pub source_is_kept : (asks (entry_of 0x79 5 0 (0 ∷ 0 ∷ 0 ∷ 0 ∷ 4 ∷ replicate 11 0)) [] holding).reply ≡ completes 5 0x80 0x0f
  unfolding block_run_of
  source_is_kept = refl

  pub destination_is_kept : (asks (entry_of 0x7d 6 8 (replicate 16 0)) (block_of 1) holding).reply ≡ completes 6 0x80 0x0f
  unfolding block_run_of
  destination_is_kept = refl

  pub source_cannot_fail : (faulting holding 0 ReadOnly).reply ≡ without_data FaultRefused
  unfolding block_run_of
  source_cannot_fail = refl

  -- and so is a Load over its program
  pub program_is_kept : (asks (entry_of 0xc1 8 0 (replicate 16 0)) [] holding).reply ≡ completes 8 0x94 0x0f
  unfolding block_run_of
  program_is_kept = refl

  -- a Write to an Empty zone succeeds; not the destination gives way to it, but the zone behind it
  abbrev opening : Happening
  opening = asks (entry_of 0x01 7 24 (replicate 16 0)) (block_of 1) holding

  pub write_succeeds : opening.reply ≡ completes 7 0 0
  unfolding block_run_of
  write_succeeds = refl

  pub destination_stays_open : state_in opening.state 1 ≡ zone.ImplicitlyOpened
  unfolding block_run_of
  destination_stays_open = refl

  pub another_gives_way : state_in opening.state 2 ≡ zone.Closed
  unfolding block_run_of
  another_gives_way = refl

  -- ---- a last block that fills its zone

  abbrev one_left : State
  one_left = state_asked (run_entry 1 0 1 8 ∷ []) (device (four_zones (
      zone_of zone.Closed (replicate 2 (block_of 7)) ∷ zone_of zone.ImplicitlyOpened (replicate 5 (block_of 1))
      ∷ zone_of zone.Empty [] ∷ zone_of zone.Empty [] ∷ [])) sevens 10)

  pub zone_is_filled : state_in (state_after_turns (0 ∷ 0 ∷ []) one_left) 1 ≡ zone.Full
  unfolding block_run_of
  zone_is_filled = refl

  pub by_one_block : replies_to_turns (0 ∷ 0 ∷ []) one_left ≡ pending 0 ∷ completes_with 2 1 1 0 0 ∷ []
  unfolding block_run_of
  by_one_block = refl

  -- ---- eight runs of one block, and no more

  abbrev nine_open : State
  nine_open = device (twelve_zones (
      zone_of zone.Full (replicate 8 (block_of 1)) ∷ replicate 9 (zone_of zone.ExplicitlyOpened []) ++ replicate 2 (zone_of zone.Empty []))) passes 0

  abbrev eight_runs : List (List ℕ)
  eight_runs =
      run_entry 1 0 0 8 ∷ run_entry 2 0 0 16 ∷ run_entry 3 0 0 24 ∷ run_entry 4 0 0 32
      ∷ run_entry 5 0 0 40 ∷ run_entry 6 0 0 48 ∷ run_entry 7 0 0 56 ∷ run_entry 8 0 0 64 ∷ []

  pub eight_are_admitted : replies_asked eight_runs nine_open
      ≡ pending 0 ∷ pending 1 ∷ pending 2 ∷ pending 3 ∷ pending 4 ∷ pending 5 ∷ pending 6 ∷ pending 7 ∷ []
  eight_are_admitted = refl

  -- a ninth finds no place; to its own source, or outside, it is refused before that
  pub no_ninth : replies_asked (run_entry 9 0 0 72 ∷ run_entry 9 0 0 0 ∷ run_entry 9 0 0 96 ∷ []) (state_asked eight_runs nine_open)
      ≡ completes 9 0x86 0x0f ∷ completes 9 0x92 0x0f ∷ completes 9 0x00 0x01 ∷ []
  no_ninth = refl

  -- the place of a run that ended is the next one's, but another run's destination is not
  pub a_place_is_free : replies_asked (run_entry 9 0 0 8 ∷ run_entry 9 0 0 72 ∷ []) (state_after_turns (2 ∷ []) (state_asked eight_runs nine_open))
      ≡ completes 9 0x80 0x0f ∷ pending 2 ∷ []
  unfolding block_run_of
  a_place_is_free = refl
