use Rattle.std.proofs.Common.{◌≡◌, take}
use Rattle.std.specs.List.{fold}
use Rattle.crc32c.specs.Crc.{next_byte}
use Rattle.crc32c.proofs.sums.Sums.after_bytes.Given as goal

abbrev pub invariant-loop-byte : goal.invariant-loop-byte
invariant-loop-byte l = l.remainder ≡ fold next_byte l.fn.remainder (take l.byte-index l.bytes)
