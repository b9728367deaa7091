use Rattle.std.proofs.Common.{inr, refl}
use Rattle.durable_machine.proofs.ReadFrames.{rest_of}
use Rattle.durable_machine.proofs.rescue.look.Goals as goal

pub returns-in-None : goal.returns-in-None
returns-in-None c = inr (refl, c.in-None.ensures, c.if-bytes-le-SECTOR.false, rest_of 4096 c.args.bytes.now)
