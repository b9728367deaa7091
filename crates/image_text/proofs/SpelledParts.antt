-- The parts of a text that are read are those that are spelled.
use Rattle.std.proofs.Common.{◌≡◌, ℕ, ◌+◌, ◌≤◌, true, nat_eq, List, [], ◌∷◌, ◌++◌, length, replicate, take, drop, refl, ap, sym, ◌∙◌, arith, length-drop, unwrap_or}
use Rattle.std.proofs.lemmas.Bool.{eqb-true, and_parts}
use Rattle.std.proofs.lemmas.List.{take-append-drop, drop-drop}
use Rattle.std.proofs.lemmas.Slice.Eq.{bytes_eq-Decides}
use Rattle.std.specs.Str.{bytes_eq}
use Rattle.byteorder.specs.Endian.{little_bytes, little_number}
use Rattle.image_text.specs.declared.version.Version.{Version}
use Rattle.image_text.specs.declared.version.Version.TheVariants.{One, Two}
use Rattle.common_definitions.specs.Bytes.{AreBytes, field}
use Rattle.image_text.specs.Reading.{are_zeros, shape_told, total_told}
use Rattle.image_text.specs.Text.{header_end, header}
use Rattle.image_text.specs.Version.{numbers_of_version}
use Rattle.common_definitions.proofs.Proved.{bytes_from, bytes_spelled}
use Rattle.image_text.proofs.HeaderParts.{begins}

-- the number at a place, and what follows
number_spelled : (xs : List ℕ) (at : ℕ) → at + 4 ≤ length xs → AreBytes xs → little_bytes 4 (field xs at 4) ++ drop (at + 4) xs ≡ drop at xs
number_spelled xs at h fit =
    ap (λ (rest : List ℕ). little_bytes 4 (field xs at 4) ++ rest) (sym (drop-drop 4 at xs))
    ∙ bytes_spelled 4 (drop at xs) (omega (arith, length-drop at xs)) (bytes_from at xs fit)

pub zeros_spelled : (xs : List ℕ) → are_zeros xs ≡ true → replicate (length xs) 0 ≡ xs
zeros_spelled [] h = refl
zeros_spelled (x ∷ xs) h =
    let parts = and_parts (nat_eq x 0) (are_zeros xs) h in
    ap (λ (first : ℕ). first ∷ replicate (length xs) 0) (sym (eqb-true x 0 parts.0)) ∙ ap (λ (rest : List ℕ). x ∷ rest) (zeros_spelled xs parts.1)

zeros_behind : (n k : ℕ) (xs : List ℕ) → length xs ≡ k + n → are_zeros (drop k xs) ≡ true → replicate n 0 ≡ drop k xs
zeros_behind n k xs size zeros =
    let left : n ≡ length (drop k xs) = omega (arith, length-drop k xs) in
    ap (λ (m : ℕ). replicate m 0) left ∙ zeros_spelled (drop k xs) zeros

magic_by : (magic xs : List ℕ) → bytes_eq magic (take 8 xs) ≡ true → magic ++ drop 8 xs ≡ xs
magic_by magic xs h = ap (λ (front : List ℕ). front ++ drop 8 xs) ((bytes_eq-Decides magic (take 8 xs)).0 h) ∙ take-append-drop 8 xs

magic_spelled : (version : Version) (xs : List ℕ) → begins xs version ≡ true → (numbers_of_version version).magic ++ drop 8 xs ≡ xs
magic_spelled One xs h = magic_by (numbers_of_version One).magic xs h
magic_spelled Two xs h = magic_by (numbers_of_version Two).magic xs h

end_spelled : (version : Version) (xs : List ℕ) → length xs ≡ 64 → AreBytes xs → are_zeros (drop (numbers_of_version version).zeros_from xs) ≡ true
    → header_end version (unwrap_or (total_told version xs) 0) ≡ drop 32 xs
end_spelled One xs size fit zeros = zeros_behind 32 32 xs size zeros
end_spelled Two xs size fit zeros =
    let number = little_bytes 8 (little_number 8 (drop 32 xs)) in
    ap (λ (rest : List ℕ). number ++ rest) (zeros_behind 24 40 xs size zeros ∙ sym (drop-drop 8 32 xs))
    ∙ bytes_spelled 8 (drop 32 xs) (omega (arith, length-drop 32 xs)) (bytes_from 32 xs fit)

-- 64 bytes that pass the tests are the header of the shape that they tell
pub header_spelled : (version : Version) (xs : List ℕ) → length xs ≡ 64 → AreBytes xs → begins xs version ≡ true → are_zeros (drop (numbers_of_version version).zeros_from xs) ≡ true
    → header version (shape_told xs) (unwrap_or (total_told version xs) 0) ≡ xs
header_spelled version xs size fit magic zeros =
    let front = (numbers_of_version version).magic in
    let n1 = field xs 8 4 in
    let n2 = field xs 12 4 in
    let n3 = field xs 16 4 in
    let n4 = field xs 20 4 in
    let n5 = field xs 24 4 in
    let n6 = field xs 28 4 in
    ap (λ (rest : List ℕ). front ++ (little_bytes 4 n1 ++ (little_bytes 4 n2 ++ (little_bytes 4 n3 ++ (little_bytes 4 n4 ++ (little_bytes 4 n5 ++ (little_bytes 4 n6 ++ rest))))))) (end_spelled version xs size fit zeros)
    ∙ (ap (λ (rest : List ℕ). front ++ (little_bytes 4 n1 ++ (little_bytes 4 n2 ++ (little_bytes 4 n3 ++ (little_bytes 4 n4 ++ (little_bytes 4 n5 ++ rest)))))) (number_spelled xs 28 (omega arith) fit)
    ∙ (ap (λ (rest : List ℕ). front ++ (little_bytes 4 n1 ++ (little_bytes 4 n2 ++ (little_bytes 4 n3 ++ (little_bytes 4 n4 ++ rest))))) (number_spelled xs 24 (omega arith) fit)
    ∙ (ap (λ (rest : List ℕ). front ++ (little_bytes 4 n1 ++ (little_bytes 4 n2 ++ (little_bytes 4 n3 ++ rest)))) (number_spelled xs 20 (omega arith) fit)
    ∙ (ap (λ (rest : List ℕ). front ++ (little_bytes 4 n1 ++ (little_bytes 4 n2 ++ rest))) (number_spelled xs 16 (omega arith) fit)
    ∙ (ap (λ (rest : List ℕ). front ++ (little_bytes 4 n1 ++ rest)) (number_spelled xs 12 (omega arith) fit)
    ∙ (ap (λ (rest : List ℕ). front ++ rest) (number_spelled xs 8 (omega arith) fit)
    ∙ magic_spelled version xs magic))))))
