-- The chunks in which bytes are compared.
use Rattle.std.proofs.Common.{ℕ, zero, suc, ◌+◌, ◌-◌, ◌*◌, ◌/◌, ◌%◌, ◌^◌, ◌<◌, ◌≤◌, ◌≡◌, Bool, true, false, List, [], ◌∷◌, ◌++◌, length, drop, replicate, refl, sym, ap, ◌∙◌, subst, arith, length-drop, append_assoc}
use Rattle.std.specs.Prelude.{IfOk, Result, Ok, Err, min, nat_le, if◌then◌else◌}
use Rattle.std.proofs.lemmas.Bool.Decides.{nat_tests}
use Rattle.instruction_set.specs.Instruction.{size_of}
use Rattle.instruction_set.specs.declared.instruction.Instruction.{Instruction}
use Rattle.instruction_set.specs.declared.operation.Size.{Size}
use Rattle.instruction_set.specs.declared.operation.Size.TheVariants.{Byte, HalfWord, Word, DoubleWord}
use Rattle.record_questions.specs.declared.question.Comparison.TheVariants.{Equal}
use Rattle.record_questions.specs.Code.{counted, chunk_field, chunk_operand, chunk_size, chunk_sizes, chunks_code, chunks_slots, comparison_code, comparison_slots, copies_code, copy_code}

-- the first chunk, and the others
next_few : (n : ℕ) → 1 ≤ n → n < 8 → chunk_sizes n ≡ chunk_size n ∷ chunk_sizes (n - size_of (chunk_size n))
next_few zero some few = absurd (omega (arith, some))
next_few (suc zero) some few = refl
next_few (suc (suc zero)) some few = refl
next_few (suc (suc (suc zero))) some few = refl
next_few (suc (suc (suc (suc zero)))) some few = refl
next_few (suc (suc (suc (suc (suc zero))))) some few = refl
next_few (suc (suc (suc (suc (suc (suc zero)))))) some few = refl
next_few (suc (suc (suc (suc (suc (suc (suc zero))))))) some few = refl
next_few (suc (suc (suc (suc (suc (suc (suc (suc n)))))))) some few = absurd (omega (arith, few))

next_wide : (m : ℕ) → chunk_sizes (8 + m) ≡ DoubleWord ∷ chunk_sizes m
next_wide m =
    let a : (8 + m) / 8 ≡ suc (m / 8) = omega arith in
    let b : (8 + m) % 8 ≡ m % 8 = omega arith in
    let c : (8 + m) % 4 ≡ m % 4 = omega arith in
    let d : (8 + m) % 2 ≡ m % 2 = omega arith in
    rw (a, b, c, d) refl

pub next_size : (n : ℕ) → 1 ≤ n → chunk_sizes n ≡ chunk_size n ∷ chunk_sizes (n - size_of (chunk_size n))
next_size n some = by (nat_le 8 n) refl
  where
    by : (b : Bool) → nat_le 8 n ≡ b → chunk_sizes n ≡ chunk_size n ∷ chunk_sizes (n - size_of (chunk_size n))
    by true e =
        let wide : chunk_size n ≡ DoubleWord = rw e refl in
        let same : 8 + (n - 8) ≡ n = grind (arith, nat_tests) in
        rw wide (subst (λ k. chunk_sizes k ≡ DoubleWord ∷ chunk_sizes (n - 8)) same (next_wide (n - 8)))
    by false e = next_few n some (grind (arith, nat_tests))

next_chunk : (xs : List ℕ) → 1 ≤ length xs
    → chunk_sizes (length xs) ≡ chunk_size (length xs) ∷ chunk_sizes (length (drop (size_of (chunk_size (length xs))) xs))
next_chunk xs some =
    let e = length-drop (size_of (chunk_size (length xs))) xs in
    rw e (next_size (length xs) some)

pub from_ok : {X E : Type 0} (r : Result X E) (P Q : X → Type 0) → IfOk r P → ((x : X) → P x → Q x) → IfOk r Q
from_ok (Ok x) P Q h f = f x h
from_ok (Err e) P Q h f = tt

next_slots : (xs rest : List ℕ) (s : Size) (a b n : ℕ) → 1 ≤ length xs → s ≡ chunk_size (length xs) → rest ≡ drop (size_of s) xs
    → a ≡ comparison_slots (chunk_field s 0) (chunk_operand s xs) → b ≡ chunks_slots (chunk_sizes (length rest)) rest → n ≡ a + b
    → n ≡ chunks_slots (chunk_sizes (length xs)) xs
next_slots xs rest s a b n some es er ea eb en =
    en ∙ (ap (λ k. k + b) ea ∙ (ap (λ k. comparison_slots (chunk_field s 0) (chunk_operand s xs) + k) (eb ∙ ap (λ ys. chunks_slots (chunk_sizes (length ys)) ys) er)
    ∙ sym (ap (λ ss. chunks_slots ss xs) (subst (λ k. chunk_sizes (length xs) ≡ k ∷ chunk_sizes (length (drop (size_of k) xs))) (sym es) (next_chunk xs some)))))

-- the slots of the first chunk and of the others
pub slots_after : (xs rest : List ℕ) (s : Size) → 1 ≤ length xs → s ≡ chunk_size (length xs) → rest ≡ drop (size_of s) xs
    → chunks_slots (chunk_sizes (length xs)) xs ≡ comparison_slots (chunk_field s 0) (chunk_operand s xs) + chunks_slots (chunk_sizes (length rest)) rest
slots_after xs rest s some es er = sym (next_slots xs rest s _ _ _ some es er refl refl refl)

pub counted_next : (a b n r k : ℕ) → a ≡ n → b ≡ counted r → k ≡ n + r → min (a + b) (2 ^ 64 - 1) ≡ counted k
counted_next a b n r k ea eb ek = omega (arith, ea, eb, ek)

pub next_code : (old between new : List Instruction) (byte offset next : ℕ) (xs rest : List ℕ) (s : Size) (skip left further : ℕ)
    → 1 ≤ length xs → s ≡ chunk_size (length xs) → rest ≡ drop (size_of s) xs → next ≡ offset + size_of s
    → left ≡ chunks_slots (chunk_sizes (length rest)) rest → further ≡ left + skip
    → between ≡ old ++ comparison_code byte true (chunk_field s offset) Equal (chunk_operand s xs) further
    → new ≡ between ++ chunks_code byte next (chunk_sizes (length rest)) rest skip
    → new ≡ old ++ chunks_code byte offset (chunk_sizes (length xs)) xs skip
next_code old between new byte offset next xs rest s skip left further some es er en el ef eb e =
    let sizes : chunk_sizes (length xs) ≡ s ∷ chunk_sizes (length (drop (size_of s) xs))
    = subst (λ k. chunk_sizes (length xs) ≡ k ∷ chunk_sizes (length (drop (size_of k) xs))) (sym es) (next_chunk xs some) in
    let code : ℕ → List Instruction = λ (k : ℕ). comparison_code byte true (chunk_field s offset) Equal (chunk_operand s xs) k in
    let slots : further ≡ chunks_slots (chunk_sizes (length (drop (size_of s) xs))) (drop (size_of s) xs) + skip
    = ef ∙ ap (λ k. k + skip) (el ∙ ap (λ ys. chunks_slots (chunk_sizes (length ys)) ys) er) in
    e ∙ (ap (λ k. k ++ chunks_code byte next (chunk_sizes (length rest)) rest skip) eb
    ∙ (append_assoc old (code further) (chunks_code byte next (chunk_sizes (length rest)) rest skip)
    ∙ ap (λ k. old ++ k)
    (ap (λ k. code k ++ chunks_code byte next (chunk_sizes (length rest)) rest skip) slots
    ∙ (ap (λ ys. code (chunks_slots (chunk_sizes (length (drop (size_of s) xs))) (drop (size_of s) xs) + skip) ++ chunks_code byte next (chunk_sizes (length ys)) ys skip) er
    ∙ (ap (λ k. code (chunks_slots (chunk_sizes (length (drop (size_of s) xs))) (drop (size_of s) xs) + skip)
    ++ chunks_code byte k (chunk_sizes (length (drop (size_of s) xs))) (drop (size_of s) xs) skip) en
    ∙ sym (ap (λ ss. chunks_code byte offset ss xs skip) sizes))))))

-- the copies of the first chunk and of the others
pub next_copies : (old between new : List Instruction) (from left count bytes : ℕ) (s : Size) → 1 ≤ count → s ≡ chunk_size count → bytes ≡ size_of s
    → between ≡ old ++ copy_code from left s
    → new ≡ between ++ copies_code (from + bytes) (left - bytes) (chunk_sizes (count - bytes))
    → new ≡ old ++ copies_code from left (chunk_sizes count)
next_copies old between new from left count bytes s some es en first rest =
    let others : ℕ → List Instruction = λ (n : ℕ). copies_code (from + n) (left - n) (chunk_sizes (count - n)) in
    rest ∙ (ap (λ k. k ++ others bytes) first
    ∙ (append_assoc old (copy_code from left s) (others bytes)
    ∙ ap (λ k. old ++ k)
    (ap (λ n. copy_code from left s ++ others n) en
    ∙ (ap (λ (z : Size). copy_code from left z ++ others (size_of z)) es
    ∙ sym (ap (λ ss. copies_code from left ss) (next_size count some))))))

-- their slots
pub next_copies_slots : (count bytes slots : ℕ) (s : Size) → 1 ≤ count → s ≡ chunk_size count → bytes ≡ size_of s
    → slots ≡ 2 * length (chunk_sizes (count - bytes)) → slots + 2 ≡ 2 * length (chunk_sizes count)
next_copies_slots count bytes slots s some es en rest =
    let same = ap (λ n. length (chunk_sizes (count - n))) (en ∙ ap (λ (z : Size). size_of z) es) in
    let whole = ap (λ (ss : List Size). length ss) (next_size count some) in
    omega (arith, rest, same, whole)

-- ---- what chunks come to

-- how many bytes chunks have
abbrev pub total : List Size → ℕ
total [] = 0
total (s ∷ ss) = size_of s + total ss

total-append : (xs ys : List Size) → total (xs ++ ys) ≡ total xs + total ys
total-append [] ys = omega arith
total-append (x ∷ xs) ys = let e = total-append xs ys in omega (arith, e)

total_wide : (k : ℕ) → total (replicate k DoubleWord) ≡ 8 * k
total_wide zero = refl
total_wide (suc k) = let e = total_wide k in omega (arith, e)

total_few : (b c d : Bool)
    → total ((if b then Word ∷ [] else []) ++ ((if c then HalfWord ∷ [] else []) ++ (if d then Byte ∷ [] else [])))
    ≡ (if b then 4 else 0) + (if c then 2 else 0) + (if d then 1 else 0)
total_few true true true = refl
total_few true true false = refl
total_few true false true = refl
total_few true false false = refl
total_few false true true = refl
total_few false true false = refl
total_few false false true = refl
total_few false false false = refl

all_counted : (n : ℕ)
    → 8 * (n / 8) + ((if nat_le 4 (n % 8) then 4 else 0) + (if nat_le 2 (n % 4) then 2 else 0) + (if nat_le 1 (n % 2) then 1 else 0)) ≡ n
all_counted n = grind (arith, nat_tests)

pub total_is : (n : ℕ) → total (chunk_sizes n) ≡ n
total_is n =
    let few = (if nat_le 4 (n % 8) then Word ∷ [] else []) ++ ((if nat_le 2 (n % 4) then HalfWord ∷ [] else []) ++ (if nat_le 1 (n % 2) then Byte ∷ [] else [])) in
    total-append (replicate (n / 8) DoubleWord) few
    ∙ (ap (λ k. k + total few) (total_wide (n / 8))
    ∙ (ap (λ k. 8 * (n / 8) + k) (total_few (nat_le 4 (n % 8)) (nat_le 2 (n % 4)) (nat_le 1 (n % 2))) ∙ all_counted n))
