-- CRC-32C (RFC 3720, appendix B.4): the rest of a division of polynomials, whose coefficients are bits. A remainder has the coefficient
-- of the highest power in its lowest bit.
use Rattle.std.specs.Prelude.{ℕ, ◌+◌, ◌*◌, ◌%◌, ◌/◌, ◌==◌, if◌then◌else◌, zero, suc, List, [], ◌∷◌}
use Rattle.std.specs.List.{fold}
use Rattle.std.specs.Int.Bits.{bit_xor}

-- 0x82F63B78, of the divisor x^32 + x^28 + x^27 + x^26 + x^25 + x^23 + x^22 + x^20 + x^19 + x^18 + x^14 + x^13 + x^11 + x^10 + x^9 +
-- x^8 + x^6 + 1 without its highest power
abbrev pub divisor : ℕ
divisor = 2197175160

-- all 32 bits: where a division begins, and what is added at its end
abbrev pub ones : ℕ
ones = 4294967295

-- a further bit of what is divided: where it differs from the highest coefficient, the divisor is taken away once
abbrev pub next_bit : ℕ → ℕ → ℕ
next_bit remainder bit = if remainder % 2 == bit then remainder / 2 else bit_xor (remainder / 2) divisor

-- the lowest n bits of a number, the lowest first
abbrev pub lowest_bits : ℕ → ℕ → List ℕ
lowest_bits zero number = []
lowest_bits (suc n) number = number % 2 ∷ lowest_bits n (number / 2)

-- the rest of a division of which this many bits of 0 are left
unfoldable pub after_zeros : ℕ → ℕ → ℕ
after_zeros zero remainder = remainder
after_zeros (suc n) remainder = after_zeros n (next_bit remainder 0)

-- a table of it, for the remainders of eight bits: with 8 bits of 0, with 16, and so on
abbrev pub row_at : ℕ → ℕ
row_at index = after_zeros (8 * (index / 256) + 8) (index % 256)

-- what a byte makes of a remainder, its lowest bit first
abbrev pub next_byte : ℕ → ℕ → ℕ
next_byte remainder byte = fold next_bit remainder (lowest_bits 8 byte)

-- the sum of bytes
abbrev pub sum_of : List ℕ → ℕ
sum_of bytes = bit_xor (fold next_byte ones bytes) ones
