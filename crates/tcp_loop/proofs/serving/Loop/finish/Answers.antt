use Rattle.tcp_loop.proofs.Progress.{fail_begin}
use Rattle.tcp_loop.proofs.Phasing.{is_due}
use Rattle.tcp_loop.proofs.Fairness.{fair_same, tells_writes}
use Rattle.tcp_loop.specs.Fair.{Tells, Writes}
use Rattle.tcp_loop.proofs.serving.Loop.finish.Goals as goal

pub returns-in-Ok-clause-keeps : goal.returns-in-Ok-clause-keeps
returns-in-Ok-clause-keeps g c = λ opened begun trace h.
    c.make_last_calls.ensures.keeps opened begun trace (c.in-Ok.ensures.done _ _ opened begun trace (is_due g.T.KeptTarget.means _ _ _ opened begun trace h))

pub returns-in-Err-clause-keeps : goal.returns-in-Err-clause-keeps
returns-in-Err-clause-keeps g c = λ opened begun trace h.
    c.fail.ensures.keeps _ opened begun trace (c.in-Err.ensures.failed _ _ opened begun trace (is_due g.T.KeptTarget.means _ _ _ opened begun trace h))

pub returns-in-Ok-clause-fair : goal.returns-in-Ok-clause-fair
returns-in-Ok-clause-fair g c = λ o trace f. c.make_last_calls.ensures.fair o trace
    (fair_same g.T.KeptTarget.means g.T.KeptTarget.free o (Writes 0) trace _ _ _ _ c.finish.ensures.same (tells_writes g.T.KeptTarget.means g.T.KeptTarget.free o trace _ _ _ f))

pub returns-in-Err-clause-fair : goal.returns-in-Err-clause-fair
returns-in-Err-clause-fair g c = λ o trace f. c.fail.ensures.fair Tells o trace (fair_same g.T.KeptTarget.means g.T.KeptTarget.free o Tells trace _ _ _ _ c.finish.ensures.same f)

pub returns-in-Ok-clause-ends : goal.returns-in-Ok-clause-ends
returns-in-Ok-clause-ends g c = c.make_last_calls.ensures.ends

pub returns-in-Err-clause-ends : goal.returns-in-Err-clause-ends
returns-in-Err-clause-ends g c = fail_begin _ c.fail.ensures.ends
