use Rattle.tcp_loop.proofs.Holding.{ticks}
use Rattle.tcp_loop.proofs.Fairness.{grown_by}
use Rattle.tcp_loop.specs.Deeds.{Ticked}
use Rattle.std.proofs.Common.{refl}
use Rattle.tcp_loop.proofs.deeds.tick.Goals as goal

pub returns-clause-keeps : goal.returns-clause-keeps
returns-clause-keeps g c = λ waiting clock clock' last is_told few.
    ticks g.T.KeptTarget.means c.args.milliseconds _ _ waiting clock clock' c.tick.ensures.done c.tick.ensures.file last is_told few

pub returns-clause-grows : goal.returns-clause-grows
returns-clause-grows g c = λ o. grown_by g.T.KeptTarget.means g.T.KeptTarget.free o (Ticked c.args.milliseconds) _ _ c.tick.ensures.done (λ q. refl) (λ q b. refl)
