-- What writes to a part of a buffer leave in it.
use Rattle.std.proofs.Common.{◌≡◌, ℕ, ◌+◌, ◌-◌, ◌≤◌, min, List, [], ◌++◌, length, take, drop, ap, ◌∙◌, arith, append_assoc}
use Rattle.std.proofs.lemmas.List.{append-nil, drop_all, drop_min, length-drop, length-take, take_min}
use Rattle.zone_state.specs.Zone.{CountedZone}
use Rattle.nvme_entry.specs.Report.{listed}
use Rattle.nvme_entry.proofs.Listings.{piece-fits}

-- the first bytes of a header, as many as there is room for
pub header-put : (output bytes new : List ℕ) (count : ℕ) → length bytes ≡ 64 → count ≡ min (length output) 64
    → new ≡ take count bytes ++ drop (length (take count bytes)) output
    → new ≡ take (length output) bytes ++ drop 64 output
header-put output bytes new count size is_count is =
    let same : count ≡ min (length output) (length bytes) = omega arith in
    let fits : length (take count bytes) ≡ min 64 (length output) = omega (arith, length-take count bytes) in
    let front : take count bytes ≡ take (length output) bytes = ap (λ (k : ℕ). take k bytes) same ∙ take_min (length output) bytes in
    let back : drop (length (take count bytes)) output ≡ drop 64 output = ap (λ (k : ℕ). drop k output) fits ∙ drop_min 64 output in
    is ∙ (ap (λ (ys : List ℕ). take count bytes ++ ys) back ∙ ap (λ (ys : List ℕ). ys ++ drop 64 output) front)

-- a piece of 64 bytes, put where it fits
pub piece-put : (output second rest piece behind : List ℕ) (at : ℕ) → at ≤ length output → length piece ≡ 64 → second ≡ piece ++ behind
    → take (at + 64) (take at output ++ (second ++ rest)) ≡ take at output ++ piece
piece-put output second rest piece behind at inside size is =
    ap (λ (ys : List ℕ). take (at + 64) (take at output ++ (ys ++ rest))) is
    ∙ (ap (λ (ys : List ℕ). take (at + 64) (take at output ++ ys)) (append_assoc piece behind rest)
    ∙ piece-fits output piece (behind ++ rest) at inside size)

-- what is listed from a place to the end
pub listed-put : (output second : List ℕ) (start room size : ℕ) (found : List (ℕ × CountedZone)) → second ≡ listed size room found → room ≡ length output - start
    → take start output ++ (second ++ drop (length output - start) (drop start output)) ≡ take start output ++ listed size (length output - start) found
listed-put output second start room size found is is_room =
    let nothing : drop (length output - start) (drop start output) ≡ [] = drop_all (length output - start) (drop start output) (omega (arith, length-drop start output)) in
    ap (λ (ys : List ℕ). take start output ++ (second ++ ys)) nothing
    ∙ (ap (λ (ys : List ℕ). take start output ++ ys) (append-nil second)
    ∙ (ap (λ (ys : List ℕ). take start output ++ ys) is ∙ ap (λ (k : ℕ). take start output ++ listed size k found) is_room))
