use Rattle.std.proofs.Common.{◌≡◌, ℕ, ◌<◌, length, get_or}
use Rattle.crc32c.specs.Crc.{row_at}
use Rattle.crc32c.proofs.rows.rows.Given as goal

abbrev pub invariant-loop-index : goal.invariant-loop-index
invariant-loop-index l = (length l.rows ≡ 4096) × ((k : ℕ) → k < l.index → get_or l.rows k 0 ≡ row_at k)
