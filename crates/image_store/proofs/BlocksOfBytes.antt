-- Bytes cut into blocks, blocks joined, and bytes with others put in their place.
use Rattle.std.proofs.Common.{◌≡◌, ℕ, ◌+◌, ◌-◌, ◌*◌, ◌<◌, ◌≤◌, zero, suc, List, [], ◌∷◌, ◌++◌, length, get_or, take, drop, refl, ap, sym, ◌∙◌, map-id, arith, length-take}
use Rattle.std.specs.List.{concat, flat_map}
use Rattle.std.proofs.lemmas.List.{append-nil, take-take, drop-take, drop-drop, take_at, drop_at, take-append-le, drop-append-le}
use Rattle.std.proofs.lemmas.List.Concat.{concat_is}
use Rattle.std.proofs.lemmas.List.Elements.{All-from_get_or}
use Rattle.std.proofs.Math.Seq.{take-add}
use Rattle.std.proofs.Math.Nat.{suc-mul}
use Rattle.common_definitions.specs.Bytes.{pieces, spliced}
use Rattle.common_definitions.proofs.Proved.{length-flat_map-each, pieces-flat_map}

-- a place behind the first piece is one in all
pub drop-next : (n k : ℕ) (xs : List ℕ) → drop (k * n) (drop n xs) ≡ drop (suc k * n) xs
drop-next n k xs = drop-drop (k * n) n xs ∙ ap (λ (m : ℕ). drop m xs) (omega (arith, suc-mul k n))

-- bytes are cut into as many blocks as are asked for
pub blocks_are_counted : (b n : ℕ) (xs : List ℕ) → length (pieces b n xs) ≡ n
blocks_are_counted b zero xs = refl
blocks_are_counted b (suc n) xs = ap suc (blocks_are_counted b n (drop b xs))

-- blocks come from the front alone
blocks-take : (b n k : ℕ) (xs : List ℕ) → n * b ≤ k → pieces b n (take k xs) ≡ pieces b n xs
blocks-take b zero k xs h = refl
blocks-take b (suc n) k xs h =
    let low : b ≤ k = omega (arith, suc-mul n b) in
    let rest : n * b ≤ k - b = omega (arith, suc-mul n b) in
    let parts : k ≡ b + (k - b) = omega arith in
    let later : drop b (take k xs) ≡ take (k - b) (drop b xs) = ap (λ (m : ℕ). drop b (take m xs)) parts ∙ drop-take b (k - b) xs in
    ap (λ (x : List ℕ). x ∷ pieces b n (drop b (take k xs))) (take-take b k xs low)
    ∙ ap (λ (ys : List ℕ). take b xs ∷ pieces b n ys) later
    ∙ ap (λ (yss : List (List ℕ)). take b xs ∷ yss) (blocks-take b n (k - b) (drop b xs) rest)

-- lists that begin alike begin with the same blocks
pub blocks-same : (b n k : ℕ) (xs ys : List ℕ) → n * b ≤ k → take k xs ≡ take k ys → pieces b n xs ≡ pieces b n ys
blocks-same b n k xs ys h e = sym (blocks-take b n k xs h) ∙ (ap (pieces b n) e ∙ blocks-take b n k ys h)

-- more blocks are those that lie behind
pub blocks-add : (b n m : ℕ) (xs : List ℕ) → pieces b (n + m) xs ≡ pieces b n xs ++ pieces b m (drop (n * b) xs)
blocks-add b zero m xs =
    let start : zero * b ≡ 0 = omega arith in
    let count : zero + m ≡ m = omega arith in
    rw (start, count) refl
blocks-add b (suc n) m xs =
    let count : suc n + m ≡ suc (n + m) = omega arith in
    ap (λ (k : ℕ). pieces b k xs) count
    ∙ (ap (λ (yss : List (List ℕ)). take b xs ∷ yss) (blocks-add b n m (drop b xs))
    ∙ ap (λ (ys : List ℕ). take b xs ∷ (pieces b n (drop b xs) ++ pieces b m ys)) (drop-next b n xs))

-- the bytes of blocks are those that they were cut from
pub blocks_keep_bytes : (b n : ℕ) (xs : List ℕ) → concat (pieces b n xs) ≡ take (n * b) xs
blocks_keep_bytes b zero xs = let none : zero * b ≡ 0 = omega arith in rw none refl
blocks_keep_bytes b (suc n) xs =
    let place : b + n * b ≡ suc n * b = omega (arith, suc-mul n b) in
    ap (λ (ys : List ℕ). take b xs ++ ys) (blocks_keep_bytes b n (drop b xs))
    ∙ (sym (take-add b (n * b) xs) ∙ ap (λ (k : ℕ). take k xs) place)

-- whole blocks have so many bytes in all,
pub blocks_have_bytes : (b : ℕ) (blocks : List (List ℕ)) → ((i : ℕ) → i < length blocks → length (get_or blocks i []) ≡ b) → length (concat blocks) ≡ length blocks * b
blocks_have_bytes b blocks whole =
    ap length (concat_is blocks) ∙ length-flat_map-each (λ (x : List ℕ). x) b blocks (All-from_get_or (λ (x : List ℕ). length x ≡ b) blocks [] whole)

-- and are cut from these again
pub blocks_are_cut_again : (b : ℕ) (blocks : List (List ℕ)) → ((i : ℕ) → i < length blocks → length (get_or blocks i []) ≡ b) → pieces b (length blocks) (concat blocks) ≡ blocks
blocks_are_cut_again b blocks whole =
    ap (pieces b (length blocks)) (concat_is blocks ∙ sym (append-nil (flat_map (λ (x : List ℕ). x) blocks)))
    ∙ (pieces-flat_map (λ (x : List ℕ). x) b blocks [] (All-from_get_or (λ (x : List ℕ). length x ≡ b) blocks [] whole) ∙ map-id blocks)

drop-blocks : (b i n : ℕ) (xs : List ℕ) → drop i (pieces b (i + n) xs) ≡ pieces b n (drop (i * b) xs)
drop-blocks b i n xs =
    ap (drop i) (blocks-add b i n xs) ∙ drop_at (pieces b i xs) (pieces b n (drop (i * b) xs)) i (blocks_are_counted b i xs)

take-blocks : (b n m : ℕ) (xs : List ℕ) → take n (pieces b (n + m) xs) ≡ pieces b n xs
take-blocks b n m xs =
    ap (take n) (blocks-add b n m xs) ∙ take_at (pieces b n xs) (pieces b m (drop (n * b) xs)) n (blocks_are_counted b n xs)

-- the bytes of some blocks of the middle
pub bytes-middle : (b i n w : ℕ) (xs : List ℕ) → i + n ≤ w → concat (take n (drop i (pieces b w xs))) ≡ take (n * b) (drop (i * b) xs)
bytes-middle b i n w xs h =
    let rest : w ≡ i + (n + (w - i - n)) = omega arith in
    ap (λ (k : ℕ). concat (take n (drop i (pieces b k xs)))) rest
    ∙ (ap (λ (yss : List (List ℕ)). concat (take n yss)) (drop-blocks b i (n + (w - i - n)) xs)
    ∙ (ap concat (take-blocks b n (w - i - n) (drop (i * b) xs)) ∙ blocks_keep_bytes b n (drop (i * b) xs)))

-- what stands before the place stays
pub take-spliced : (k at : ℕ) (new xs : List ℕ) → k ≤ at → at ≤ length xs → take k (spliced at new xs) ≡ take k xs
take-spliced k at new xs low in_list =
    let short : k ≤ length (take at xs) = omega (arith, length-take at xs) in
    take-append-le k (take at xs) (new ++ drop (at + length new) xs) short ∙ take-take k at xs low

-- from the place on there are the new bytes
pub drop-spliced : (at : ℕ) (new xs : List ℕ) → at ≤ length xs → drop at (spliced at new xs) ≡ new ++ drop (at + length new) xs
drop-spliced at new xs in_list =
    let size : length (take at xs) ≡ at = omega (arith, length-take at xs) in
    drop_at (take at xs) (new ++ drop (at + length new) xs) at size

-- what stands behind the new bytes stays
pub drop-spliced-past : (k at : ℕ) (new xs : List ℕ) → at + length new ≤ k → at ≤ length xs → drop k (spliced at new xs) ≡ drop k xs
drop-spliced-past k at new xs past in_list =
    let far : k ≡ at + (length new + (k - at - length new)) = omega arith in
    let near : (at + length new) + (k - at - length new) ≡ k = omega arith in
    let size : length new ≡ length new = refl in
    ap (λ (m : ℕ). drop m (spliced at new xs)) far
    ∙ (sym (drop-drop (length new + (k - at - length new)) at (spliced at new xs))
    ∙ (ap (drop (length new + (k - at - length new))) (drop-spliced at new xs in_list)
    ∙ (sym (drop-drop (k - at - length new) (length new) (new ++ drop (at + length new) xs))
    ∙ (ap (drop (k - at - length new)) (drop_at new (drop (at + length new) xs) (length new) size)
    ∙ (drop-drop (k - at - length new) (at + length new) xs ∙ ap (λ (m : ℕ). drop m xs) near)))))

-- a place past a front is a place in the rest
pub drop-spliced-later : (k at : ℕ) (new xs : List ℕ) → k + at ≤ length xs → drop k (spliced (k + at) new xs) ≡ spliced at new (drop k xs)
drop-spliced-later k at new xs in_list =
    let short : k ≤ length (take (k + at) xs) = omega (arith, length-take (k + at) xs) in
    let place : (k + at) + length new ≡ k + (at + length new) = omega arith in
    drop-append-le k (take (k + at) xs) (new ++ drop ((k + at) + length new) xs) short
    ∙ (ap (λ (ys : List ℕ). ys ++ (new ++ drop ((k + at) + length new) xs)) (drop-take k at xs)
    ∙ ap (λ (ys : List ℕ). take at (drop k xs) ++ (new ++ ys)) (ap (λ (m : ℕ). drop m xs) place ∙ sym (drop-drop (at + length new) k xs)))
