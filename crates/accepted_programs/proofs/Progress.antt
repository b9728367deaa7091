-- A step forward leaves fewer instructions.
use Rattle.std.specs.Prelude.{ℕ, zero, suc, ◌≡◌, ◌+◌, ◌<◌, ◌≤◌, List, [], ◌∷◌, take, drop, count_by, is_some, Option, Some, None, if◌then◌else◌}
use Rattle.std.proofs.Common.{arith}
use Rattle.std.proofs.lemmas.List.Sums.{sum_by-cons, sum_by-take-drop}
use Rattle.instruction_set.specs.declared.instruction.Instruction.{Instruction}
use Rattle.program_meaning.specs.Step.{IsAt}

-- ---- behind an instruction there are fewer than from there on
one_more : (n : ℕ) (i : Instruction) (slots : List (Option Instruction)) → n ≤ count_by is_some slots
    → n < count_by is_some (Some i ∷ slots)
one_more n i slots h =
    let count : count_by is_some (Some i ∷ slots) ≡ 1 + count_by is_some slots =
    sum_by-cons (λ (slot : Option Instruction). if is_some slot then 1 else 0) (Some i) slots in
    omega (arith, count, h)

fewer_behind : (m : ℕ) (slots : List (Option Instruction)) → count_by is_some (drop m slots) ≤ count_by is_some slots
fewer_behind m slots =
    let parts : count_by is_some (take m slots) + count_by is_some (drop m slots) ≡ count_by is_some slots =
    sum_by-take-drop (λ (slot : Option Instruction). if is_some slot then 1 else 0) slots m in
    omega (arith, parts)

pub fewer : (slots : List (Option Instruction)) (k m : ℕ) → IsAt slots k → k < m
    → count_by is_some (drop m slots) < count_by is_some (drop k slots)
fewer [] k m here before = cc
fewer (slot ∷ slots) k zero here before = absurd (omega arith)
fewer (None ∷ slots) zero (suc m) here before = cc
fewer (Some i ∷ slots) zero (suc m) here before = one_more _ i slots (fewer_behind m slots)
fewer (slot ∷ slots) (suc k) (suc m) here before = fewer slots k m here (omega arith)

pub some_left : (slots : List (Option Instruction)) (k : ℕ) → IsAt slots k → 1 ≤ count_by is_some (drop k slots)
some_left slots k here = let less = fewer slots k (suc k) here (omega arith) in omega (arith, less)
