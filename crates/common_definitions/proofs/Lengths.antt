-- How long bytes with zeros behind them are, and what is put together of pieces of one length, which is cut into these again.
use Rattle.std.proofs.Common.{◌≡◌, ℕ, suc, ◌*◌, ◌-◌, ◌≤◌, List, [], ◌∷◌, ◌++◌, length, map, take, drop, replicate, refl, ap, ◌∙◌, append_assoc, arith}
use Rattle.std.proofs.Math.Nat.{suc-mul}
use Rattle.std.proofs.lemmas.List.{drop_at, length-append, length-replicate, take_at}
use Rattle.std.specs.List.{All, flat_map}
use Rattle.common_definitions.specs.Bytes.{padded, pieces}

-- bytes that are padded up to a length, which they don't exceed, have that length
pub length-padded : (wanted : ℕ) (bytes : List ℕ) → length bytes ≤ wanted → length (padded wanted bytes) ≡ wanted
length-padded wanted bytes fits =
    let zeros : length (replicate {A = ℕ} (wanted - length bytes) 0) ≡ wanted - length bytes = length-replicate (wanted - length bytes) 0 in
    omega (arith, length-append bytes (replicate (wanted - length bytes) 0), zeros)

-- what is put together of pieces of one length is as long as their number times that length
pub length-flat_map-each : {X A : Type 0} (f : X → List A) (n : ℕ) (xs : List X) → All (λ x. length (f x) ≡ n) xs → length (flat_map f xs) ≡ length xs * n
length-flat_map-each f n [] each = omega arith
length-flat_map-each f n (x ∷ xs) each =
    omega (arith, length-append (f x) (flat_map f xs), each 0 x (omega arith), length-flat_map-each f n xs (λ k d h. each (suc k) d (omega arith)), suc-mul (length xs) n)

-- whatever stands behind the pieces
pub pieces-flat_map : {X : Type 0} (f : X → List ℕ) (n : ℕ) (xs : List X) (rest : List ℕ) → All (λ x. length (f x) ≡ n) xs → pieces n (length xs) (flat_map f xs ++ rest) ≡ map f xs
pieces-flat_map f n [] rest each = refl
pieces-flat_map f n (x ∷ xs) rest each =
    let behind = flat_map f xs ++ rest in
    let size : length (f x) ≡ n = each 0 x (omega arith) in
    ap (λ (ys : List ℕ). take n ys ∷ pieces n (length xs) (drop n ys)) (append_assoc (f x) (flat_map f xs) rest)
    ∙ (ap (λ (ys : List ℕ). ys ∷ pieces n (length xs) (drop n (f x ++ behind))) (take_at (f x) behind n size)
    ∙ (ap (λ (ys : List ℕ). f x ∷ pieces n (length xs) ys) (drop_at (f x) behind n size)
    ∙ ap (λ (zs : List (List ℕ)). f x ∷ zs) (pieces-flat_map f n xs rest (λ k d h. each (suc k) d (omega arith)))))
