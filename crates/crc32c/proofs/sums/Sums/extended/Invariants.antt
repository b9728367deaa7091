use Rattle.std.proofs.Common.{◌≡◌, length}
use Rattle.std.specs.List.{fold}
use Rattle.std.specs.Int.Bits.{bit_xor}
use Rattle.crc32c.specs.Crc.{ones, next_byte}
use Rattle.crc32c.proofs.sums.Sums.extended.Given as goal

abbrev pub invariant-loop-sixteen : goal.invariant-loop-sixteen
invariant-loop-sixteen l = fold next_byte l.remainder l.rest ≡ fold next_byte (bit_xor l.sum ones) l.bytes

abbrev pub decreases-loop-sixteen : goal.decreases-loop-sixteen
decreases-loop-sixteen l = length l.rest
