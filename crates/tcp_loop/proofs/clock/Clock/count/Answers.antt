use Rattle.std.proofs.Common.{refl, sym}
use Rattle.tcp_loop.proofs.clock.Clock.count.Goals as goal

pub returns-in-Some : goal.returns-in-Some
returns-in-Some c = rw (sym c.in-Some.ensures) (c.go_on.ensures.last, λ few. (c.go_on.ensures.untold few, c.go_on.ensures.few few))

pub returns-in-None : goal.returns-in-None
returns-in-None c = rw (sym c.in-None.ensures) refl
