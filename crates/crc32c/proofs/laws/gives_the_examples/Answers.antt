use Rattle.std.proofs.Common.{refl}
use Rattle.crc32c.proofs.laws.gives_the_examples.Goals as goal

pub returns : goal.returns
returns c = record { zeros = refl; ones = refl; rising = refl; falling = refl; read = refl }
