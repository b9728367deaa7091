-- A question of which the laws speak, by computing the definitions.
use Rattle.std.proofs.Common.{◌≡◌, ℕ, Bool, true, false, List, [], ◌∷◌, ◌++◌, replicate, Option, None, Ok, refl, lit<, lit≤}
use Rattle.std.specs.Prelude.{◌&&◌, nat_lt}
use Rattle.std.proofs.lemmas.Bool.{and_parts, ltb-true}
use Rattle.std.specs.declared.alloc.Global.{Global}
use Rattle.std.specs.Ptr.{Ptr}
use Rattle.common_definitions.specs.Bytes.{AreBytes}
use Rattle.emit_append.proofs.Proved.{AllBytes, by_place}
use Rattle.image_store.specs.Geometry.{IsShape, Shape}
use Rattle.image_store.specs.Namespace.{all_empty}
use Rattle.instruction_set.specs.declared.instruction.Instruction.{Instruction}
use Rattle.instruction_set.specs.declared.operation.Size.TheVariants.{Byte}
use Rattle.instruction_set.specs.Spelling.{program_bytes}
use Rattle.interval_domain.specs.Intervals.{intervals}
use Rattle.nvme_entry.specs.declared.command.LoadCommand.{LoadCommand}
use Rattle.nvme_entry.specs.declared.command.RunCommand.{RunCommand}
use Rattle.program_interface.specs.RunSizes.{Sizes}
use Rattle.zns_commands.proofs.Proved.{empty_is_namespace, no_bytes}
use Rattle.device_events.specs.ToldEvents as told
use Rattle.device_meaning.proofs.Proved.{judged_is_spelled, judged_is_unrefused, new_may_begin}
use Rattle.device_meaning.specs.EventReplies.{submission_of}
use Rattle.device_meaning.specs.Events.{Occurrence, state_after}
use Rattle.device_meaning.specs.Judging.{interval_judge}
use Rattle.device_meaning.specs.Reached.{IsReached}
use Rattle.device_meaning.specs.State.{State, new_state}
use Rattle.pushdown.specs.Pushdown.{IsAdmitted}
use Rattle.question_compiler.specs.Compiled.{IsCompiled}
use Rattle.question_runs.specs.Loaded.{QuestionWasLoaded, load_by}
use Rattle.question_runs.specs.Met.{IsMet, QuestionIsMet}
use Rattle.record_questions.specs.Asked.{IsQuestion}
use Rattle.record_questions.specs.Code.{question_program}
use Rattle.record_questions.specs.declared.question.ByteOrder.TheVariants.{Little}
use Rattle.record_questions.specs.declared.question.Comparison.TheVariants.{GreaterOrEqual}
use Rattle.record_questions.specs.declared.question.Field.{Field}
use Rattle.record_questions.specs.declared.question.Operand.TheVariants.{Argument}
use Rattle.record_questions.specs.declared.question.Predicate.TheVariants.{Compare}
use Rattle.record_questions.specs.declared.question.Question.{Question}
use Rattle.record_questions.specs.declared.question.Sign.TheVariants.{Unsigned}
use Rattle.record_questions.specs.declared.question.Tally.TheVariants.{Count}

-- ---- bytes, by a test

abbrev all_small : List ℕ → Bool
all_small [] = true
all_small (x ∷ xs) = nat_lt x 256 && all_small xs

small_are : (bytes : List ℕ) → all_small bytes ≡ true → AllBytes bytes
small_are [] is = tt
small_are (x ∷ xs) is =
    let both = and_parts (nat_lt x 256) (all_small xs) is in
    (ltb-true x 256 both.0, small_are xs both.1)

bytes_are : (bytes : List ℕ) → all_small bytes ≡ true → AreBytes bytes
bytes_are bytes is = by_place bytes (small_are bytes is)

-- ---- a namespace: four zones of 8 blocks, of which 6 can be written

abbrev four : Shape
four = record { block = 512; zones = 4; size = 8; capacity = 6; limits = record { open_limit = 3; active_limit = 4 } }

is_shape : IsShape four
is_shape = record {
  block_size = refl;
  zones_some = lit≤ tt;
  zones_most = lit≤ tt;
  size_some = lit≤ tt;
  size_most = lit≤ tt;
  capacity_some = lit≤ tt;
  capacity_most = lit≤ tt;
  open_some = lit≤ tt;
  open_most = lit≤ tt;
  active_most = lit≤ tt;
  room = lit≤ tt;
}

-- a block of two records of eight bytes, of each its first byte, and nothing else
abbrev block : ℕ → ℕ → List ℕ
block first second = first ∷ replicate 7 0 ++ second ∷ replicate 503 0

-- ---- entries

-- an entry with this opcode, identifier, logical block, and further dwords
abbrev entry_of : ℕ → ℕ → ℕ → List ℕ → List ℕ
entry_of opcode cid lba more = opcode ∷ 0 ∷ cid ∷ 0 ∷ 1 ∷ 0 ∷ 0 ∷ 0 ∷ replicate 32 0 ++ lba ∷ replicate 7 0 ++ more

-- Zone Append of one block, to the zone that begins there
abbrev append_entry : ℕ → ℕ → List ℕ
append_entry cid lba = entry_of 0x7d cid lba (replicate 16 0)

-- Zone Management Send of Open Zone
abbrev open_entry : ℕ → ℕ → List ℕ
open_entry cid lba = entry_of 0x79 cid lba (0 ∷ 0 ∷ 0 ∷ 0 ∷ 3 ∷ replicate 11 0)

-- Load of 176 bytes into slot 0, whose groups have at most 8 bytes
abbrev load_entry : ℕ → List ℕ
load_entry cid = 0xc1 ∷ 0 ∷ cid ∷ 0 ∷ 1 ∷ 0 ∷ 0 ∷ 0 ∷ replicate 36 0 ++ 8 ∷ 0 ∷ 0 ∷ 0 ∷ 176 ∷ replicate 15 0

-- Run of the program in slot 0 with the argument 8, over the first two blocks of zone 0, which appends to zone 1
abbrev run_entry : ℕ → List ℕ
run_entry cid = entry_of 0xc0 cid 0 (1 ∷ 0 ∷ 0 ∷ 0 ∷ 8 ∷ 0 ∷ 0 ∷ 0 ∷ 8 ∷ replicate 7 0)

abbrev command : RunCommand
command = record { lba = 0; blocks = 2; slot = 0; argument = 8; destination = 8 }

-- an entry in queue 1, with these bytes beside it
abbrev submits : (entry bytes : List ℕ) → Occurrence
submits entry bytes = record { event = told.Submitted 1 entry bytes; starved = false }

-- ---- a state that events leave: two blocks are appended to zone 0, and zone 1 is opened

abbrev events : List Occurrence
events = submits (append_entry 1 0) (block 7 9) ∷ submits (append_entry 2 0) (block 8 3) ∷ submits (open_entry 3 8) [] ∷ []

abbrev before : State
before = state_after interval_judge events (new_state (all_empty four))

is_reached : IsReached interval_judge before
is_reached = record {
  first = new_state (all_empty four);
  events = events;
  begins = new_may_begin interval_judge (all_empty four) (empty_is_namespace four is_shape);
  bytes = (bytes_are (block 7 9) refl, (bytes_are (block 8 3) refl, (no_bytes, tt)));
  leaves = refl;
}

-- ---- a question: of the records whose first byte is at least the argument their first two bytes, and how many they are

abbrev sizes : Sizes
sizes = record { block = 512; limit = 8 }

abbrev first_byte : Field
first_byte = record { size = Byte; offset = 0; sign = Unsigned; order = Little }

module _ (ptr : Ptr) (alloc : Global) where
  abbrev q : Question
  q = record {
    first = 0;
    size = 8;
    count = 2;
    wanted = Compare first_byte GreaterOrEqual Argument;
    emitted = record {
      ptr = ptr;
      len = 1;
      cap = 1;
      alloc = alloc;
      items = record { offset = 0; size = 2 } ∷ [];
      ok = (refl, lit≤ tt);
      small = lit< tt;
    };
    tallies = record { ptr = ptr; len = 1; cap = 1; alloc = alloc; items = Count ∷ []; ok = (refl, lit≤ tt); small = lit< tt };
    by = None;
  }

  is_question : IsQuestion 512 q
  is_question = record {
    some_bytes = lit≤ tt;
    some_records = lit≤ tt;
    inside = lit≤ tt;
    wanted = (lit≤ tt, tt);
    emitted = ((lit≤ tt, lit≤ tt), tt);
    stacked = lit≤ tt;
    tallies = (tt, tt);
    by = tt;
    few_tallies = lit≤ tt;
  }

  abbrev program : List (Option Instruction)
  program = question_program q

  program_are : AreBytes (program_bytes program)
  program_are = bytes_are (program_bytes program) refl

  judged : interval_judge (program_bytes program) sizes ≡ Ok program
  judged = refl

  is_compiled : IsCompiled q sizes program
  is_compiled = record {
    asked = is_question;
    of_question = refl;
    is_program = (judged_is_spelled intervals (program_bytes program) sizes program program_are judged).0;
    accepted = (judged_is_unrefused intervals (program_bytes program) sizes program judged).unrefused;
  }

  abbrev state : State
  state = state_after interval_judge (load_by 1 (load_entry 4) program false ∷ []) before

  abbrev load : LoadCommand
  load = record { slot = 0; limit = 8; bytes = 176 }

  was_loaded : QuestionWasLoaded state 0 q
  was_loaded = record {
    before = before;
    reached = is_reached;
    program = program;
    is_program = record { sizes = sizes; compiled = is_compiled; same_block = refl };
    queue = 1;
    entry = load_entry 4;
    starved = false;
    load = load;
    asked = refl;
    same_slot = refl;
    succeeds = refl;
    events = [];
    bytes = (program_are, tt);
    kept = tt;
    leaves = refl;
  }

  is_admitted : IsAdmitted state (submission_of 1 (run_entry 5) []) command 0
  is_admitted = record { asked = refl; passed = refl; free = refl }

  is_met : IsMet
  is_met = record {
    q = q;
    state = state;
    command = command;
    loaded = was_loaded;
    queue = 1;
    entry = run_entry 5;
    input = [];
    starved = false;
    run = 0;
    events = record { event = told.Turned 0; starved = false } ∷ [];
    admitted = is_admitted;
    bytes = bytes_are (run_entry 5) refl;
    are_events = (tt, tt);
    last_left = refl;
    compared = first_byte;
    asks_argument = refl;
    counts = refl;
    one_group = refl;
    two_records = refl;
    two_blocks = refl;
    two_match = refl;
    count_is = refl;
  }

pub question_is_met : QuestionIsMet
question_is_met ptr alloc = is_met ptr alloc
