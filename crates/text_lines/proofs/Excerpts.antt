-- The beginning of a text.
use Rattle.std.proofs.Common.{◌≡◌, ℕ, ◌-◌, List, ◌++◌, length, take, replicate, min, ap, ◌∙◌, arith}
use Rattle.std.proofs.lemmas.List.{take_min}

-- a text's first bytes are kept in front of as many zeros as there are bytes fewer
pub bytes_of_excerpt : (kept most : ℕ) (front zeros text : List ℕ) → front ≡ take kept text → kept ≡ min most (length text)
    → zeros ≡ replicate (most - kept) 0 → front ++ zeros ≡ take most text ++ replicate (most - length text) 0
bytes_of_excerpt kept most front zeros text first least behind =
    let as_many : most - kept ≡ most - length text = omega (arith, least) in
    ap (λ (bytes : List ℕ). bytes ++ zeros) (first ∙ ap (λ (n : ℕ). take n text) least ∙ take_min most text)
    ∙ ap (λ (bytes : List ℕ). take most text ++ bytes) (behind ∙ ap (λ (n : ℕ). replicate n 0) as_many)
