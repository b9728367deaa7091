-- A state that events leave, in which a Run is admitted: one of which the pushdown theorem speaks.
use Rattle.std.proofs.Common.{ℕ, false, List, [], ◌∷◌, ◌++◌, replicate, refl, lit<, lit≤}
use Rattle.zone_state.specs.declared.state.ZoneState.TheVariants as zone
use Rattle.nvme_entry.specs.declared.command.RunCommand.{RunCommand}
use Rattle.word_domain.specs.Domain.{Operations}
use Rattle.device_meaning.specs.Judging.{judge_by}
use Rattle.common_definitions.proofs.Proved.{all_append, all_same}
use Rattle.emit_append.proofs.Proved.{AllBytes, FitsByte, by_place}
use Rattle.image_store.specs.Geometry.{IsShape, Shape}
use Rattle.image_store.specs.Namespace.{all_empty, shape}
use Rattle.common_definitions.specs.Bytes.{AreBytes}
use Rattle.zns_commands.proofs.Proved.{empty_is_namespace, no_bytes}
use Rattle.device_meaning.specs.EventReplies.{submission_of}
use Rattle.device_meaning.specs.Events.{Occurrence, state_after}
use Rattle.pushdown.specs.Pushdown.{IsAdmitted}
use Rattle.device_meaning.specs.Reached.{IsReached}
use Rattle.device_meaning.specs.State.{State, new_state}
use Rattle.device_events.specs.ToldEvents as told
use Rattle.device_meaning.proofs.Proved.{new_may_begin}
use Rattle.pushdown.proofs.ExampleEvents.{zone_of}
use Rattle.pushdown.proofs.ExampleLoads.{load_entry}
use Rattle.pushdown.proofs.Examples.{block_of, entry_of, four_zones, leave, move, run_entry}

-- the shape of the four zones of other examples
abbrev four : Shape
four = shape (four_zones (replicate 4 (zone_of zone.Empty [])))

is_shape : IsShape four
is_shape = record {
  block_size = refl;
  zones_some = lit≤ tt;
  zones_most = lit≤ tt;
  size_some = lit≤ tt;
  size_most = lit≤ tt;
  capacity_some = lit≤ tt;
  capacity_most = lit≤ tt;
  open_some = lit≤ tt;
  open_most = lit≤ tt;
  active_most = lit≤ tt;
  room = lit≤ tt;
}

-- a program of two instructions
abbrev program : List ℕ
program = move ++ leave

-- a byte, and zeros behind it
then_zeros : (byte zeros : ℕ) → FitsByte byte → AllBytes (byte ∷ replicate zeros 0)
then_zeros byte zeros is = (is, all_same FitsByte zeros 0 (lit< tt))

block_is : AreBytes (block_of 7)
block_is = by_place (block_of 7) (then_zeros 7 511 (lit< tt))

program_is : AreBytes program
program_is = by_place program (all_append FitsByte move leave (then_zeros 0xb7 7 (lit< tt)) (then_zeros 0x95 7 (lit< tt)))

-- a run of one block of zone 0, which appends to zone 1
abbrev command : RunCommand
command = record { lba = 0; blocks = 1; slot = 0; argument = 0; destination = 8 }

module _ {D : Type 0} (operations : Operations D) where
  -- an entry in queue 1, with these bytes beside it
  abbrev submits : (entry bytes : List ℕ) → Occurrence
  submits entry bytes = record { event = told.Submitted 1 entry bytes; starved = false }

  -- one block is appended to zone 0, zone 1 is opened, and a program is loaded into slot 0
  abbrev events : List Occurrence
  events =
      submits (entry_of 0x7d 1 0 (replicate 16 0)) (block_of 7)
      ∷ submits (entry_of 0x79 2 8 (0 ∷ 0 ∷ 0 ∷ 0 ∷ 3 ∷ replicate 11 0)) []
      ∷ submits (load_entry 3 0 0 16) program
      ∷ []

  abbrev state : State
  state = state_after (judge_by operations) events (new_state (all_empty four))

  pub is_reached : IsReached (judge_by operations) state
  is_reached = record {
    first = new_state (all_empty four);
    events = events;
    begins = new_may_begin (judge_by operations) (all_empty four) (empty_is_namespace four is_shape);
    bytes = (block_is, (no_bytes, (program_is, tt)));
    leaves = refl;
  }

  pub is_admitted : IsAdmitted state (submission_of 1 (run_entry 4 0 0 8) []) command 0
  is_admitted = record { asked = refl; passed = refl; free = refl }
