use Rattle.tcp_loop.proofs.Progress.{fail_commit}
use Rattle.tcp_loop.proofs.Fairness.{fair_same}
use Rattle.tcp_loop.specs.Fair.{Writes}
use Rattle.tcp_loop.proofs.serving.Loop.commit.Goals as goal

pub returns-in-Ok-clause-keeps : goal.returns-in-Ok-clause-keeps
returns-in-Ok-clause-keeps g c = λ opened begun trace h.
    c.make_calls.ensures.keeps opened begun trace (c.in-Ok.ensures.done _ _ opened begun trace h)

pub returns-in-Err-clause-keeps : goal.returns-in-Err-clause-keeps
returns-in-Err-clause-keeps g c = λ opened begun trace h.
    c.fail.ensures.keeps _ opened begun trace (c.in-Err.ensures.failed _ _ opened begun trace h)

pub returns-in-Ok-clause-fair : goal.returns-in-Ok-clause-fair
returns-in-Ok-clause-fair g c = λ o trace f. c.make_calls.ensures.fair o trace (fair_same g.T.KeptTarget.means g.T.KeptTarget.free o (Writes 0) trace _ _ _ _ c.commit.ensures.same f)

pub returns-in-Err-clause-fair : goal.returns-in-Err-clause-fair
returns-in-Err-clause-fair g c = λ o trace f. c.fail.ensures.fair (Writes 0) o trace (fair_same g.T.KeptTarget.means g.T.KeptTarget.free o (Writes 0) trace _ _ _ _ c.commit.ensures.same f)

pub returns-in-Ok-clause-ends : goal.returns-in-Ok-clause-ends
returns-in-Ok-clause-ends g c = c.make_calls.ensures.ends

pub returns-in-Err-clause-ends : goal.returns-in-Err-clause-ends
returns-in-Err-clause-ends g c = fail_commit _ c.fail.ensures.ends
