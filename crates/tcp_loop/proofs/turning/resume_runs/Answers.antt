use Rattle.tcp_loop.proofs.Fairness.{grown_same, grown_two}
use Rattle.std.proofs.Common.{refl}
use Rattle.tcp_loop.proofs.turning.resume_runs.Goals as goal

pub loop-run-init : goal.loop-run-init
loop-run-init g c = (λ waiting clock opened begun trace h. h, λ o. grown_same g.T.KeptTarget.means g.T.KeptTarget.free o _ _ refl)

pub loop-run-preserved : goal.loop-run-preserved
loop-run-preserved g c = (
  λ waiting clock opened begun trace h. c.in-Ok.ensures.keeps waiting clock opened begun trace (c.loop-run.invariant.0 waiting clock opened begun trace h),
  λ o. grown_two g.T.KeptTarget.means g.T.KeptTarget.free o _ _ _ (c.loop-run.invariant.1 o) (c.in-Ok.ensures.grows o),
)

pub returns-in-Err-clause-grows : goal.returns-in-Err-clause-grows
returns-in-Err-clause-grows g c = λ o. grown_two g.T.KeptTarget.means g.T.KeptTarget.free o _ _ _ (c.loop-run.invariant.1 o) (c.resume.ensures.grows o)
