-- ORs and XORs of small numbers have no bits that a mask over both lacks.
use Rattle.std.proofs.Common.{ℕ, pos, ◌≡◌, ◌∙◌, ◌-◌, ◌/◌, ◌^◌, ◌<◌, ◌≤◌, arith}
use Rattle.std.proofs.Math.Nat.{mod-eq_of_lt, mod-le}
use Rattle.std.proofs.Math.Pow.{pow_mono}
use Rattle.std.proofs.lemmas.Nat.{and_mask, le_or_l, le_or_r, pow_pos}
use Rattle.std.proofs.lemmas.Nat.Bits.{ones_shr}
use Rattle.std.proofs.lemmas.Int.{to_z_pos}
use Rattle.std.proofs.Common.{refl, to_z, w32}
use Rattle.std.specs.Prelude.{bit_or}
use Rattle.accepted_programs.specs.Facts.{fact, source_fact}
use Rattle.accepted_programs.specs.declared.facts.Facts.{Facts}
use Rattle.ebpf_link.specs.Masks.{AddsNoBits, IsIdle, IsMaskOver}
use Rattle.instruction_set.specs.Instruction.{immediate_word}
use Rattle.instruction_set.specs.declared.instruction.Instruction.TheVariants.{Arithmetic}
use Rattle.instruction_set.specs.declared.instruction.Source.{Source}
use Rattle.instruction_set.specs.declared.operation.Operation.{Operation}
use Rattle.instruction_set.specs.declared.operation.Operation.TheVariants.{And}
use Rattle.instruction_set.specs.declared.operation.Width.{Width}
use Rattle.instruction_set.specs.declared.operation.Width.TheVariants.{Bits32, Bits64}
use Rattle.interval_domain.specs.Fact.{ContainsWord, bounds_of}
use Rattle.interval_domain.specs.Intervals.{intervals}
use Rattle.interval_domain.specs.declared.fact.Fact.{Fact}
use Rattle.interval_domain.specs.declared.fact.Fact.TheVariants.{Pointer, Words}
use Rattle.program_meaning.specs.Word.{computed, low_bits}
use Rattle.program_meaning.specs.declared.word.Arithmetic.TheVariants.{Binary}
use Rattle.word_domain.specs.declared.bounds.Bounds.{Bounds}

-- ones of which some are cut are ones alone
pub cut : (most n : ℕ) → n < 20 → most ≤ 0xfffff / 2 ^ n → IsMaskOver most (0xfffff / 2 ^ n)
cut most n few over = (20 - n, omega arith, ones_shr 20 n (omega arith), over)

-- an AND with ones alone leaves a number without other bits
kept : (width : Width) (ones n : ℕ) → ones ≤ 20 → n < 2 ^ ones → computed (Binary width And) n (immediate_word (pos (2 ^ ones - 1))) ≡ n
kept Bits64 ones n few below =
    let small = pow_mono few in
    rw (mod-eq_of_lt {n = 2 ^ ones - 1} {m = 2 ^ 64} (omega (arith, small))) (and_mask n ones ∙ mod-eq_of_lt below)
kept Bits32 ones n few below =
    let small = pow_mono few in
    rw (mod-eq_of_lt {n = 2 ^ ones - 1} {m = 2 ^ 64} (omega (arith, small)))
    (rw (mod-eq_of_lt {n = 2 ^ ones - 1} {m = 2 ^ 32} (omega (arith, small)))
    (rw (mod-eq_of_lt {n = n} {m = 2 ^ 32} (omega (arith, small))) (and_mask n ones ∙ mod-eq_of_lt below)))

low_below : (width : Width) (n most : ℕ) → n < most → low_bits width n < most
low_below Bits32 n most below = let less = mod-le n (2 ^ 32) in omega arith
low_below Bits64 n most below = below

pub has_64_bits : (fact : Fact) (w : ℕ) → ContainsWord fact w → w < 2 ^ 64
has_64_bits (Words b) w is = omega arith
has_64_bits (Pointer area low high) w is = omega arith

pub at_least : (fact : Fact) (w : ℕ) → ContainsWord fact w → (bounds_of fact).low ≤ w
at_least (Words b) w is = omega arith
at_least (Pointer area low high) w is = omega arith

pub at_most : (fact : Fact) (w : ℕ) → ContainsWord fact w → w ≤ (bounds_of fact).high
at_most (Words b) w is = omega arith
at_most (Pointer area low high) w is = omega arith

-- a mask over the greatest words of both operands leaves what an operation without other bits makes of them
pub idle : (facts : Facts Fact) (width : Width) (operation : Operation) (dst : ℕ) (source : Source) (first second : Bounds) (mask : ℕ)
    → first ≡ bounds_of (fact intervals facts dst) → second ≡ bounds_of (source_fact intervals facts source) → AddsNoBits operation
    → IsMaskOver (bit_or first.high second.high) mask
    → IsIdle facts (Arithmetic width operation dst source) width dst (to_z w32 mask)
idle facts width operation dst source first second mask one other adds (ones, few, is, over) = (
  refl,
  λ x y hx hy.
      let left = le_or_l first.high second.high in
      let right = le_or_r first.high second.high in
      let x_small : x ≤ first.high = rw one (at_most _ x hx) in
      let y_small : y ≤ second.high = rw other (at_most _ y hy) in
      let some = pow_pos ones in
      let most = pow_mono few in
      let within : low_bits width x < 2 ^ ones = low_below width x (2 ^ ones) (omega arith) in
      let within' : low_bits width y < 2 ^ ones = low_below width y (2 ^ ones) (omega arith) in
      rw (to_z_pos w32 mask (omega arith), is) (kept width ones _ few (adds width ones _ _ within within')),
)
