-- Words of scratch that are none of a set.
use Rattle.std.proofs.Common.{ℕ, ◌≡◌, ◌∙◌, ◌+◌, ◌-◌, ◌*◌, ◌/◌, ◌%◌, ◌^◌, ◌<◌, ◌≤◌, arith, inl, inr, refl}
use Rattle.std.proofs.lemmas.Nat.{and_mask, shr-shr}
use Rattle.std.proofs.lemmas.Bool.{cases_lt}
use Rattle.std.specs.Int.{bit_at}
use Rattle.std.specs.Prelude.{bit_and}
use Rattle.ebpf_link.specs.Marks.{AreFree, IsPlace}

-- where two bits from a place on are none
pub free : (stored word : ℕ) → bit_and (stored / 2 ^ word) 3 ≡ 0 → (bit_at stored word ≡ 0) × (bit_at stored (word + 1) ≡ 0)
free stored word none =
    let low : stored / 2 ^ word % 4 ≡ 0 = rw (← and_mask (stored / 2 ^ word) 2) none in
    let next : stored / 2 ^ word / 2 ≡ stored / 2 ^ (word + 1) = shr-shr stored word 1 in
    (omega (arith, low), rw (← next) (omega (arith, low)))

-- and the other way round
pub none_of : (stored word : ℕ) → bit_at stored word ≡ 0 → bit_at stored (word + 1) ≡ 0 → bit_and (stored / 2 ^ word) 3 ≡ 0
none_of stored word one other =
    let next : stored / 2 ^ word / 2 ≡ stored / 2 ^ (word + 1) = shr-shr stored word 1 in
    let high : stored / 2 ^ word / 2 % 2 ≡ 0 = rw next other in
    and_mask (stored / 2 ^ word) 2 ∙ omega (arith, one, high)

-- a byte is a place just where its word is free
pub no_place : (stored at word : ℕ) → at ≡ 8 * word → (AreFree stored word → ⊥) → IsPlace stored at → ⊥
no_place stored at word is none (other, is', free) =
    let same : other ≡ word = omega (arith, is, is') in
    none (rw (← same) free)

-- none is past the last word but one
pub within : (stored at : ℕ) → IsPlace stored at → at ≤ 1008
within stored at (word, is, free) = omega (arith, is, free.0)

-- a place that is none is passed over
pub further : (stored back at : ℕ) → back < 128 → at + 8 * back < 1024 → IsPlace stored at → (IsPlace stored (8 * (127 - back)) → ⊥)
    → at + 8 * (back + 1) < 1024
further stored back at few below (word, is, free) none = elim (cases_lt at (8 * (127 - back))) [
  | inl less ↦ omega (arith, is)
  | inr more ↦ absurd (none (127 - back, refl, (let same : word ≡ 127 - back = omega (arith, is) in rw (← same) free)))
]

-- and none is past it
pub latest : (stored back at : ℕ) → back < 128 → at + 8 * back < 1024 → IsPlace stored at → at ≤ 8 * (127 - back)
latest stored back at few below (word, is, free) = omega (arith, is)
