use Rattle.std.proofs.Common.{rules}
use Rattle.std.proofs.lemmas.List.FromFn.{fill_by_all}
use Rattle.crc32c.specs.Crc.{row_at}
use Rattle.crc32c.proofs.rows.rows.Goals as goal

pub returns : goal.returns
returns c = fill_by_all row_at c.loop-index.rows 4096 0 c.loop-index.invariant.0 (search rules)
