-- Bytes that are compared chunk by chunk.
use Rattle.std.proofs.Common.{ℕ, zero, suc, pos, ◌+◌, ◌≤◌, ◌≡◌, Bool, true, false, ◌&&◌, List, [], ◌∷◌, ◌++◌, length, take, drop, refl, sym, ap, ◌∙◌, subst, arith, length-drop, take-append-drop}
use Rattle.std.proofs.lemmas.Bool.Decides.{nat_tests}
use Rattle.std.proofs.lemmas.List.{drop-take, take_all}
use Rattle.std.proofs.lemmas.Slice.Eq.{bytes_eq-Decides}
use Rattle.std.specs.Ordering.{int_eq}
use Rattle.std.specs.Str.{bytes_eq}
use Rattle.byteorder.specs.Endian.{little_bytes, little_number}
use Rattle.byteorder.specs.Numbers.{little_from-take}
use Rattle.common_definitions.proofs.Proved.{bytes_from, front_spelled}
use Rattle.common_definitions.specs.Bytes.{AreBytes}
use Rattle.instruction_set.specs.Instruction.{size_of}
use Rattle.instruction_set.specs.declared.operation.Size.{Size}
use Rattle.record_questions.proofs.ChunkSizes.{total, total_is}
use Rattle.record_questions.specs.Code.{chunk_sizes}

-- do bytes have these in front, chunk by chunk?
abbrev pub all_chunks : List Size → List ℕ → List ℕ → Bool
all_chunks [] these xs = true
all_chunks (s ∷ ss) these xs =
    int_eq (pos (little_number (size_of s) xs)) (pos (little_number (size_of s) these))
    && all_chunks ss (drop (size_of s) these) (drop (size_of s) xs)

same_number : (n : ℕ) (these xs : List ℕ) → n ≤ length these → n ≤ length xs → AreBytes these → AreBytes xs
    → little_number n xs ≡ little_number n these → take n xs ≡ take n these
same_number n these xs long enough are fit same =
    sym (front_spelled n xs enough fit) ∙ (ap (little_bytes n) same ∙ front_spelled n these long are)

both_true : (a b : Bool) → (a && b) ≡ true → (a ≡ true) × (b ≡ true)
both_true true true e = (refl, refl)
both_true true false e = cc
both_true false b e = cc

take_none : (m : ℕ) → take {A = ℕ} m [] ≡ []
take_none zero = refl
take_none (suc m) = refl

decided_same : (a b : ℕ) → int_eq (pos a) (pos b) ≡ true → a ≡ b
decided_same a b e = grind (arith, nat_tests)

same_decided : (a b : ℕ) → a ≡ b → int_eq (pos a) (pos b) ≡ true
same_decided a b e = grind (arith, nat_tests)

take_both : (n m : ℕ) (xs : List ℕ) → take (n + m) xs ≡ take n xs ++ take m (drop n xs)
take_both zero m xs = let e : 0 + m ≡ m = omega arith in rw e refl
take_both (suc n) m [] =
    let e : suc n + m ≡ suc (n + m) = omega arith in
    rw e (sym (take_none m))
take_both (suc n) m (x ∷ xs) =
    let e : suc n + m ≡ suc (n + m) = omega arith in
    rw e (ap (λ ys. x ∷ ys) (take_both n m xs))

front_from : (ss : List Size) (these xs : List ℕ) → total ss ≡ length these → length these ≤ length xs → AreBytes these → AreBytes xs
    → all_chunks ss these xs ≡ true → take (length these) xs ≡ these
front_from [] these xs all enough are fit e =
    let none : length these ≡ 0 = sym all in
    rw none (take_all 0 these (omega (arith, none)))
front_from (s ∷ ss) these xs all enough are fit e =
    let n = size_of s in
    let m = length (drop n these) in
    let both = both_true _ _ e in
    let dropped = length-drop n these in
    let left = length-drop n xs in
    let same = decided_same (little_number n xs) (little_number n these) both.0 in
    let rest = front_from ss (drop n these) (drop n xs) (omega (arith, all, dropped)) (omega (arith, all, dropped, left, enough))
    (bytes_from n these are) (bytes_from n xs fit) both.1 in
    let front = same_number n these xs (omega (arith, all)) (omega (arith, all, enough)) are fit same in
    let long : length these ≡ n + m = omega (arith, all, dropped) in
    rw long (take_both n m xs ∙ (ap (λ ys. ys ++ take m (drop n xs)) front ∙ (ap (λ ys. take n these ++ ys) rest ∙ take-append-drop n these)))

chunks_from : (ss : List Size) (these xs : List ℕ) → total ss ≡ length these → take (length these) xs ≡ these → all_chunks ss these xs ≡ true
chunks_from [] these xs all e = refl
chunks_from (s ∷ ss) these xs all e =
    let n = size_of s in
    let m = length (drop n these) in
    let dropped = length-drop n these in
    let long : length these ≡ n + m = omega (arith, all, dropped) in
    let same : little_number n xs ≡ little_number n these
    = sym (little_from-take 0 n (length these) xs (omega (arith, all))) ∙ ap (little_number n) e in
    let rest : take m (drop n xs) ≡ drop n these
    = sym (drop-take n m xs) ∙ ap (drop n) (subst (λ k. take k xs ≡ these) long e) in
    rw (same_decided _ _ same) (chunks_from ss (drop n these) (drop n xs) (omega (arith, all, dropped)) rest)

same_bool : (a b : Bool) → (a ≡ true → b ≡ true) → (b ≡ true → a ≡ true) → a ≡ b
same_bool true b f g = sym (f refl)
same_bool false true f g = g refl
same_bool false false f g = refl

pub chunks_are : (these xs : List ℕ) → length these ≤ length xs → AreBytes these → AreBytes xs
    → all_chunks (chunk_sizes (length these)) these xs ≡ bytes_eq (take (length these) xs) these
chunks_are these xs enough are fit =
    let decides = bytes_eq-Decides (take (length these) xs) these in
    let ss = chunk_sizes (length these) in
    let all = total_is (length these) in
    same_bool _ _ (λ e. decides.1 (front_from ss these xs all enough are fit e)) (λ e. chunks_from ss these xs all (decides.0 e))
