-- The sum of a program's bytes, by which it is known which program notes are of: CRC-32, as zip files have it (profile).
use Rattle.std.specs.Prelude.{ℕ, suc, zero, ◌/◌, ◌%◌, ◌==◌, List, [], ◌∷◌, if◌then◌else◌, bit_xor}

-- of what is left of a division by the polynomial, the lowest bit is divided: bits stand in reverse, x ^ 31 first
abbrev pub after_bit : ℕ → ℕ
after_bit left = if left % 2 == 1 then bit_xor (left / 2) 3988292384 else left / 2

abbrev pub after_bits : ℕ → ℕ → ℕ
after_bits zero left = left
after_bits (suc more) left = after_bits more (after_bit left)

abbrev pub after_byte : ℕ → ℕ → ℕ
after_byte left byte = after_bits 8 (bit_xor left byte)

abbrev pub after_bytes : ℕ → List ℕ → ℕ
after_bytes left [] = left
after_bytes left (byte ∷ bytes) = after_bytes (after_byte left byte) bytes

-- all bits are set at first, and all are turned at the end
abbrev pub sum_of : List ℕ → ℕ
sum_of bytes = bit_xor (after_bytes 4294967295 bytes) 4294967295
