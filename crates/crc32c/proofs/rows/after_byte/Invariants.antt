use Rattle.std.proofs.Common.{◌≡◌, ◌-◌}
use Rattle.crc32c.specs.Crc.{after_zeros}
use Rattle.crc32c.proofs.rows.after_byte.Given as goal

abbrev pub invariant-loop : goal.invariant-loop
invariant-loop l = after_zeros (8 - l.counter) l.remainder ≡ after_zeros 8 l.fn.remainder
