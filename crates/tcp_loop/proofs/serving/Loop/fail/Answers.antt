use Rattle.tcp_loop.proofs.Phasing.{stops}
use Rattle.tcp_loop.proofs.Fairness.{ends_all}
use Rattle.tcp_loop.proofs.serving.Loop.fail.Goals as goal

pub returns-clause-keeps : goal.returns-clause-keeps
returns-clause-keeps g c = λ phase opened begun trace h.
    c.tell_failure.ensures.keeps opened begun trace (stops g.T.KeptTarget.means phase _ _ _ opened begun trace h)

pub returns-clause-fair : goal.returns-clause-fair
returns-clause-fair g c = λ p o trace f. c.tell_failure.ensures.fair o trace (ends_all g.T.KeptTarget.means g.T.KeptTarget.free o trace _ _ _ p f)

pub returns-clause-ends : goal.returns-clause-ends
returns-clause-ends g c = c.tell_failure.ensures.few
