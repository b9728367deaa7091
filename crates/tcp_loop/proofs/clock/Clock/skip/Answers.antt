use Rattle.std.proofs.Common.{refl, sym}
use Rattle.tcp_loop.proofs.clock.Clock.skip.Goals as goal

pub returns-in-Some : goal.returns-in-Some
returns-in-Some c = rw (sym c.in-Some.ensures) (refl, refl)

pub returns-in-None : goal.returns-in-None
returns-in-None c = rw (sym c.in-None.ensures) (refl, refl)
