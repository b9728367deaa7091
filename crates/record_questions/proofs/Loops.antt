-- What the loops of the code generator push and count.
use Rattle.std.proofs.Common.{ℕ, suc, ◌+◌, ◌-◌, ◌*◌, ◌^◌, ◌<◌, ◌≤◌, ◌≡◌, ◌++◌, List, drop, length, arith, append_assoc}
use Rattle.std.proofs.lemmas.List.{drop_all}
use Rattle.instruction_set.specs.declared.instruction.Instruction.{Instruction}
use Rattle.record_questions.specs.Code.{counted, record_code, records_code, tallies_slots}
use Rattle.record_questions.specs.declared.question.Question.{Question}
use Rattle.record_questions.specs.declared.question.Tally.{Tally}

-- one record less is left
pub next_record : (q : Question) (code : List Instruction) (n i : ℕ) → i < n
    → (code ++ record_code q (q.first + i * q.size)) ++ records_code q (n - (i + 1)) (q.first + (i + 1) * q.size)
    ≡ code ++ records_code q (n - i) (q.first + i * q.size)
next_record q code n i less =
    let e : n - i ≡ suc (n - (i + 1)) = omega arith in
    let f : q.first + (i + 1) * q.size ≡ q.first + i * q.size + q.size = omega arith in
    rw (e, f) (append_assoc code (record_code q (q.first + i * q.size)) (records_code q (n - (i + 1)) (q.first + i * q.size + q.size)))

-- none is left to count
pub all_counted : (ts : List Tally) (slots i : ℕ) → length ts ≤ i → slots < 2 ^ 64
    → counted (slots + tallies_slots (drop i ts)) ≡ counted (tallies_slots ts) → slots ≡ counted (tallies_slots ts)
all_counted ts slots i done small left =
    let e = rw (drop_all i ts done) at left in
    omega (arith, small, e)
