use Rattle.tcp_loop.specs.Kept.{Resting}
use Rattle.tcp_loop.proofs.Holding.{same, turned}
use Rattle.tcp_loop.proofs.Phasing.{attended_rests}
use Rattle.tcp_loop.proofs.Fairness.{grown_by, grown_same}
use Rattle.tcp_loop.specs.Deeds.{Turned}
use Rattle.std.proofs.Common.{ap, refl}
use Rattle.tcp_loop.proofs.deeds.turn.Goals as goal

pub returns-in-Ok-clause-keeps : goal.returns-in-Ok-clause-keeps
returns-in-Ok-clause-keeps g c = λ waiting clock opened begun trace h.
    attended_rests g.T.KeptTarget.means 0 _ waiting clock opened begun trace
    (turned g.T.KeptTarget.means _ _ waiting clock c.in-Ok.ensures.done c.in-Ok.ensures.file opened begun trace h)

pub returns-in-Ok-clause-attends : goal.returns-in-Ok-clause-attends
returns-in-Ok-clause-attends g c = λ waiting clock. turned g.T.KeptTarget.means _ _ waiting clock c.in-Ok.ensures.done c.in-Ok.ensures.file

pub returns-in-Err-clause-keeps : goal.returns-in-Err-clause-keeps
returns-in-Err-clause-keeps g c = λ waiting clock. same g.T.KeptTarget.means Resting _ _ waiting clock c.in-Err.ensures.refused

pub returns-in-Ok-clause-grows : goal.returns-in-Ok-clause-grows
returns-in-Ok-clause-grows g c = λ o. grown_by g.T.KeptTarget.means g.T.KeptTarget.free o Turned _ _ c.in-Ok.ensures.done (λ q. refl) (λ q b. refl)

pub returns-in-Err-clause-grows : goal.returns-in-Err-clause-grows
returns-in-Err-clause-grows g c = λ o. grown_same g.T.KeptTarget.means g.T.KeptTarget.free o _ _ (ap (λ k. k.state) c.in-Err.ensures.refused)
