-- A Run of which the pushdown theorem speaks, by computing the definitions.
use Rattle.std.proofs.Common.{◌≢◌, ℕ, false, List, [], ◌∷◌, ◌++◌, replicate, refl, lit<, lit≤, arith}
use Rattle.device_meaning.specs.Judging.{interval_judge}
use Rattle.nvme_entry.specs.declared.command.RunCommand.{RunCommand}
use Rattle.program_meaning.specs.BlockRun.{block_run_of}
use Rattle.common_definitions.proofs.Proved.{all_append, all_same}
use Rattle.common_definitions.specs.Bytes.{AreBytes}
use Rattle.emit_append.proofs.Proved.{AllBytes, FitsByte, by_place}
use Rattle.image_store.specs.Geometry.{IsShape, Shape}
use Rattle.image_store.specs.Namespace.{all_empty}
use Rattle.zns_commands.proofs.Proved.{empty_is_namespace, no_bytes}
use Rattle.device_meaning.specs.EventReplies.{submission_of}
use Rattle.device_meaning.specs.Events.{Occurrence, state_after}
use Rattle.device_meaning.specs.Happenings.{admitted_place}
use Rattle.device_meaning.specs.Reached.{IsReached}
use Rattle.device_meaning.specs.State.{State, new_state}
use Rattle.device_events.specs.ToldEvents as told
use Rattle.pushdown.specs.Pushdown.{IsAdmitted}
use Rattle.device_meaning.proofs.Proved.{new_may_begin}
use Rattle.device_laws.specs.Witness.{AppendsBetween, PushdownIsMet}

-- ---- a namespace: four zones of 8 blocks, of which 6 can be written

abbrev four : Shape
four = record { block = 512; zones = 4; size = 8; capacity = 6; limits = record { open_limit = 3; active_limit = 4 } }

is_shape : IsShape four
is_shape = record {
  block_size = refl;
  zones_some = lit≤ tt;
  zones_most = lit≤ tt;
  size_some = lit≤ tt;
  size_most = lit≤ tt;
  capacity_some = lit≤ tt;
  capacity_most = lit≤ tt;
  open_some = lit≤ tt;
  open_most = lit≤ tt;
  active_most = lit≤ tt;
  room = lit≤ tt;
}

-- ---- bytes

-- a byte, and zeros behind it
then_zeros : (byte zeros : ℕ) → FitsByte byte → AllBytes (byte ∷ replicate zeros 0)
then_zeros byte zeros is = (is, all_same FitsByte zeros 0 (lit< tt))

-- a block that begins with 7
abbrev block : List ℕ
block = 7 ∷ replicate 511 0

block_is : AreBytes block
block_is = by_place block (then_zeros 7 511 (lit< tt))

-- mov r1, r2; mov r2, 510; call 1; exit
abbrev move : List ℕ
move = 0xbf ∷ 0x21 ∷ replicate 6 0

abbrev count : List ℕ
count = 0xb7 ∷ 0x02 ∷ 0 ∷ 0 ∷ 0xfe ∷ 0x01 ∷ replicate 2 0

abbrev emit : List ℕ
emit = 0x85 ∷ 0 ∷ 0 ∷ 0 ∷ 1 ∷ replicate 3 0

abbrev leave : List ℕ
leave = 0x95 ∷ replicate 7 0

-- emits a block's first 510 bytes
abbrev program : List ℕ
program = move ++ count ++ emit ++ leave

move_is : AllBytes move
move_is = (lit< tt, then_zeros 0x21 6 (lit< tt))

count_is : AllBytes count
count_is = (lit< tt, (lit< tt, (lit< tt, (lit< tt, (lit< tt, then_zeros 0x01 2 (lit< tt))))))

emit_is : AllBytes emit
emit_is = (lit< tt, (lit< tt, (lit< tt, (lit< tt, then_zeros 1 3 (lit< tt)))))

leave_is : AllBytes leave
leave_is = then_zeros 0x95 7 (lit< tt)

program_is : AreBytes program
program_is = by_place program (
    all_append FitsByte move (count ++ emit ++ leave) move_is (
    all_append FitsByte count (emit ++ leave) count_is (
    all_append FitsByte emit leave emit_is leave_is)))

-- ---- entries

-- an entry with this opcode, identifier, logical block, and further dwords
abbrev entry_of : ℕ → ℕ → ℕ → List ℕ → List ℕ
entry_of opcode cid lba more = opcode ∷ 0 ∷ cid ∷ 0 ∷ 1 ∷ 0 ∷ 0 ∷ 0 ∷ replicate 32 0 ++ lba ∷ replicate 7 0 ++ more

-- Zone Append of one block, to the zone that begins there
abbrev append_entry : ℕ → ℕ → List ℕ
append_entry cid lba = entry_of 0x7d cid lba (replicate 16 0)

-- Zone Management Send of Open Zone
abbrev open_entry : ℕ → ℕ → List ℕ
open_entry cid lba = entry_of 0x79 cid lba (0 ∷ 0 ∷ 0 ∷ 0 ∷ 3 ∷ replicate 11 0)

-- Load of 32 bytes into slot 0, whose groups have at most 512 bytes
abbrev load_entry : ℕ → List ℕ
load_entry cid = 0xc1 ∷ 0 ∷ cid ∷ 0 ∷ 1 ∷ 0 ∷ 0 ∷ 0 ∷ replicate 36 0 ++ 0 ∷ 2 ∷ 0 ∷ 0 ∷ 32 ∷ replicate 15 0

-- Run of the program in slot 0, over the first three blocks of zone 0, which appends to zone 1
abbrev run_entry : ℕ → List ℕ
run_entry cid = entry_of 0xc0 cid 0 (2 ∷ replicate 7 0 ++ 8 ∷ replicate 7 0)

abbrev command : RunCommand
command = record { lba = 0; blocks = 3; slot = 0; argument = 0; destination = 8 }

-- ---- a state that events leave: three blocks are appended to zone 0, zone 1 is opened, and the program is loaded

-- an entry in queue 1, with these bytes beside it
abbrev submits : (entry bytes : List ℕ) → Occurrence
submits entry bytes = record { event = told.Submitted 1 entry bytes; starved = false }

abbrev events : List Occurrence
events =
    submits (append_entry 1 0) block
    ∷ submits (append_entry 2 0) block
    ∷ submits (append_entry 3 0) block
    ∷ submits (open_entry 4 8) []
    ∷ submits (load_entry 5) program
    ∷ []

abbrev state : State
state = state_after interval_judge events (new_state (all_empty four))

is_reached : IsReached interval_judge state
is_reached = record {
  first = new_state (all_empty four);
  events = events;
  begins = new_may_begin interval_judge (all_empty four) (empty_is_namespace four is_shape);
  bytes = (block_is, (block_is, (block_is, (no_bytes, (program_is, tt)))));
  leaves = refl;
}

is_admitted : IsAdmitted state (submission_of 1 (run_entry 6) []) command 0
is_admitted = record { asked = refl; passed = refl; free = refl }

-- ---- its turns

turns_append : AppendsBetween (admitted_place (submission_of 1 (run_entry 6) []) state command).turns
unfolding block_run_of
turns_append = record { three = refl; appends = refl; goes_on = refl }

-- ---- a command of queue 2 between them

other : ◌≢◌ {A = ℕ} 2 1
other same = omega (arith, same)

-- it appends a block to zone 2
pub pushdown_is_met : PushdownIsMet
unfolding block_run_of
pushdown_is_met = record {
  state = state;
  reached = is_reached;
  queue = 1;
  entry = run_entry 6;
  input = [];
  command = command;
  run = 0;
  admitted = is_admitted;
  turns = turns_append;
  other_queue = 2;
  other_entry = append_entry 6 16;
  other_input = block;
  another_queue = other;
  given_back = 16;
  replies = refl;
}
