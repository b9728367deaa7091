-- How many slots the program of a question takes.
use Rattle.std.proofs.Common.{ℕ, zero, suc, ◌+◌, ◌-◌, ◌*◌, ◌<◌, ◌≤◌, ◌^◌, ◌≡◌, Bool, true, false, List, [], ◌∷◌, length, Option, Some, None, refl, arith}
use Rattle.std.proofs.lemmas.Bool.Decides.{nat_tests}
use Rattle.std.specs.Prelude.{if◌then◌else◌, min, nat_le}
use Rattle.instruction_set.specs.Program.{is_wide, slots_of}
use Rattle.instruction_set.specs.declared.instruction.Instruction.{Instruction}
use Rattle.instruction_set.specs.declared.instruction.Instruction.TheVariants.{Exit}
use Rattle.program_interface.specs.declared.TheConstants.{MOST_SLOTS}
use Rattle.program_interface.specs.declared.block_size.TheConstants.{LARGEST_BLOCK}
use Rattle.record_questions.proofs.Records.{match_slots_are}
use Rattle.record_questions.proofs.Standing.{slot_count-append}
use Rattle.record_questions.proofs.Tests.{test_slots_are}
use Rattle.record_questions.specs.declared.question.Question.{Question}
use Rattle.record_questions.specs.Asked.{IsQuestion}
use Rattle.record_questions.specs.Code.{counted, match_code, match_slots, question_code, question_program, record_code, records_code, slot_count, test_code, test_slots}

one_long : (wide : Bool) (i : Instruction) (rest : List (Option Instruction)) (n : ℕ) → length rest ≡ n
    → length (if wide then Some i ∷ None ∷ rest else Some i ∷ rest) ≡ (if wide then 2 else 1) + n
one_long true i rest n e = omega (arith, e)
one_long false i rest n e = omega (arith, e)

slots_long : (is : List Instruction) → length (slots_of is) ≡ slot_count is
slots_long [] = refl
slots_long (i ∷ is) = one_long (is_wide i) i (slots_of is) (slot_count is) (slots_long is)

-- the slots of a record
abbrev each : Question → ℕ
each q = test_slots true q.wanted + match_slots q

record_slots : (q : Question) (byte : ℕ) → slot_count (record_code q byte) ≡ each q
record_slots q byte =
    let test = test_code byte true q.wanted (match_slots q) in
    let a = test_slots_are q.wanted byte true (match_slots q) in
    let b = match_slots_are q byte in
    omega (arith, a, b, slot_count-append test (match_code q byte))

records_slots : (q : Question) (n byte : ℕ) → slot_count (records_code q n byte) ≡ n * each q
records_slots q zero byte = omega arith
records_slots q (suc n) byte =
    let a = record_slots q byte in
    let b = records_slots q n (byte + q.size) in
    omega (arith, a, b, slot_count-append (record_code q byte) (records_code q n (byte + q.size)))

question_slots : (q : Question) → length (question_program q) ≡ q.count * each q + 4
question_slots q =
    let records = records_code q q.count q.first in
    let a = slots_long (question_code q) in
    let b = records_slots q q.count q.first in
    omega (arith, a, b, slot_count-append records (Exit ∷ []))

product : (n a b : ℕ) → min (min (n * min (counted a + counted b) (2 ^ 64 - 1)) (2 ^ 64 - 1) + 4) (2 ^ 64 - 1) ≡ counted (n * (a + b) + 4)
product n a b = by (nat_le (a + b) (2 ^ 64 - 1)) refl
  where
    many : (n : ℕ) → 2 ^ 64 - 1 ≤ a + b
        → min (min (n * (2 ^ 64 - 1)) (2 ^ 64 - 1) + 4) (2 ^ 64 - 1) ≡ counted (n * (a + b) + 4)
    many zero long = omega arith
    many (suc n) long = omega (arith, long)

    by : (few : Bool) → nat_le (a + b) (2 ^ 64 - 1) ≡ few
        → min (min (n * min (counted a + counted b) (2 ^ 64 - 1)) (2 ^ 64 - 1) + 4) (2 ^ 64 - 1) ≡ counted (n * (a + b) + 4)
    by true e =
        let le : a + b ≤ 2 ^ 64 - 1 = grind (arith, nat_tests) in
        let same : min (counted a + counted b) (2 ^ 64 - 1) ≡ a + b = omega (arith, le) in
        rw same (omega arith)
    by false e =
        let long : 2 ^ 64 - 1 ≤ a + b = grind (arith, nat_tests) in
        let same : min (counted a + counted b) (2 ^ 64 - 1) ≡ 2 ^ 64 - 1 = omega (arith, long) in
        rw same (many n long)

pub all_counted : (q : Question)
    → min (min (q.count * min (counted (test_slots true q.wanted) + counted (match_slots q)) (2 ^ 64 - 1)) (2 ^ 64 - 1) + 4) (2 ^ 64 - 1)
    ≡ counted (length (question_program q))
all_counted q = rw (question_slots q) (product q.count (test_slots true q.wanted) (match_slots q))

least : (n k : ℕ) → 1 ≤ n → k ≤ n * k
least zero k some = absurd (omega (arith, some))
least (suc n) k some = omega arith

pub room_left : (q : Question) → IsQuestion LARGEST_BLOCK q → counted (length (question_program q)) ≤ MOST_SLOTS
    → test_slots true q.wanted + match_slots q < 2 ^ 15
room_left q is few =
    let one = least q.count (each q) is.some_records in
    omega (arith, few, one, question_slots q)
