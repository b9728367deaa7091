-- A question's program has slots, and a question of some blocks can be asked of larger ones.
use Rattle.std.proofs.Common.{ℕ, ◌≤◌, length, arith}
use Rattle.program_interface.specs.declared.block_size.TheConstants.{LARGEST_BLOCK}
use Rattle.record_questions.specs.Asked.{IsQuestion}
use Rattle.record_questions.specs.Code.{question_program}
use Rattle.record_questions.specs.declared.question.Question.{Question}

pub some_slots : (q : Question) → 1 ≤ length (question_program q)
some_slots q = omega arith

pub asked_of_largest : (block : ℕ) (q : Question) → block ≤ LARGEST_BLOCK → IsQuestion block q → IsQuestion LARGEST_BLOCK q
asked_of_largest block q less is =
    let inside = is.inside in
    record {
      some_bytes = is.some_bytes;
      some_records = is.some_records;
      inside = omega (arith, inside, less);
      wanted = is.wanted;
      emitted = is.emitted;
      stacked = is.stacked;
      tallies = is.tallies;
      by = is.by;
      few_tallies = is.few_tallies;
    }
