-- An OR of an aligned address and a smaller number is their sum.
use Rattle.std.proofs.Common.{ℕ, ℤ, pos, ◌≡◌, ◌∙◌, ◌+◌, ◌*◌, ◌/◌, ◌%◌, ◌^◌, ◌<◌, ◌≤◌, arith, refl}
use Rattle.std.proofs.Math.Nat.{mod-eq_of_lt}
use Rattle.std.proofs.lemmas.Nat.{and_block, and_mask, div-add-mod', or_comm, or_disjoint, pow_pos}
use Rattle.std.proofs.Math.Nat.{add_comm}
use Rattle.std.proofs.lemmas.Int.{ints}
use Rattle.std.specs.Int.Bits.{and_zero_l, and_zero_r}
use Rattle.std.specs.Prelude.{bit_and}
use Rattle.ebpf_link.specs.Masks.{IsMaskOver}
use Rattle.ebpf_link.specs.Sums.{IsSum}
use Rattle.interval_domain.specs.Fact.{ContainsWord}
use Rattle.interval_domain.specs.declared.fact.Fact.TheVariants.{Pointer, Words}
use Rattle.program_interface.specs.declared.area.Area.{Area}
use Rattle.program_interface.specs.declared.area.Area.TheVariants.{Block, Context, Scratch, Stack}
use Rattle.program_interface.specs.Area.{address_of}
use Rattle.word_domain.specs.declared.bounds.Bounds.{Bounds}

-- of a multiple of a power of two a smaller number has no bit
split : (k q r y : ℕ) → r < 2 ^ k → y < 2 ^ k → bit_and (q * 2 ^ k + r) y ≡ bit_and r y
split k q r y few below =
    let both = and_block k q 0 r y few below in
    let same : 0 * 2 ^ k + y ≡ y = omega arith in
    let none = and_zero_r q in
    grind (arith, both, same, none)

-- nor has it of one that has no remainder
apart : (k d y : ℕ) → d % 2 ^ k ≡ 0 → y < 2 ^ k → bit_and d y ≡ 0
apart k d y none below =
    let whole = div-add-mod' d (2 ^ k) in
    let e : d ≡ d / 2 ^ k * 2 ^ k + 0 = omega (arith, whole, none) in
    rw e (split k (d / 2 ^ k) 0 y (pow_pos k) below ∙ and_zero_l y)

-- so an aligned distance from an area's address has none of it
addressed : (area : Area) (d y : ℕ) → d < 2 ^ 32 → y < 2 ^ 32 → bit_and d y ≡ 0 → bit_and (address_of area + d) y ≡ 0
addressed Context d y few small none = split 32 1 d y few small ∙ none
addressed Block d y few small none = split 32 2 d y few small ∙ none
addressed Stack d y few small none = split 32 3 d y few small ∙ none
addressed Scratch d y few small none = split 32 4 d y few small ∙ none

near : (area : Area) → address_of area ≤ 0x4_0000_0000
near Context = omega arith
near Block = omega arith
near Stack = omega arith
near Scratch = omega arith

-- the only word of a pointer that is known alone
place : (area : Area) (low high : ℤ) (d x : ℕ) → pos d ≡ low → low ≡ high → ContainsWord (Pointer area low high) x → x ≡ address_of area + d
place area low high d x is same ((from, to), wide) = omega (arith, ints, from, to, is, same)

below : (bounds : Bounds) (y : ℕ) → ContainsWord (Words bounds) y → y ≤ bounds.high
below bounds y is = omega arith

-- the sum of an aligned address and a number below its bits
pub sums : (area : Area) (low high : ℤ) (bounds : Bounds) (d mask : ℕ) → pos d ≡ low → low ≡ high → d < 2 ^ 32 → bounds.high ≤ 0xfff
    → IsMaskOver bounds.high mask → bit_and d mask ≡ 0
    → (x y : ℕ) → ContainsWord (Pointer area low high) x → ContainsWord (Words bounds) y → IsSum x y
sums area low high bounds d mask is same few small (ones, low_ones, ones_are, over) none x y hx hy =
    let x_is = place area low high d x is same hx in
    let y_small = below bounds y hy in
    let some = pow_pos ones in
    let rest : d % 2 ^ ones ≡ 0 = rw (← and_mask d ones) (rw (← ones_are) none) in
    let close = near area in
    let clear = addressed area d y few (omega (arith, y_small)) (apart ones d y rest (omega (arith, y_small, some))) in
    rw x_is (rw (mod-eq_of_lt {n = address_of area + d + y} {m = 2 ^ 64} (omega (arith, y_small, close))) (or_disjoint (address_of area + d) y clear))

-- the operands can be turned round
pub turned : (x y : ℕ) → IsSum y x → IsSum x y
turned x y is = or_comm x y ∙ is ∙ (rw (add_comm y x) refl)
