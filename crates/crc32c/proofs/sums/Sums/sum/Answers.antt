use Rattle.std.proofs.Common.{[], refl}
use Rattle.crc32c.proofs.sums.Sums.sum.Goals as goal

pub returns : goal.returns
returns c = c.extended.ensures [] refl
