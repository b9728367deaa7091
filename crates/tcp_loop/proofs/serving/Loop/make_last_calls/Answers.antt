use Rattle.tcp_loop.specs.Kept.{Pending}
use Rattle.tcp_loop.proofs.Phasing.{goes_on_with, stops}
use Rattle.tcp_loop.proofs.Fairness.{ends_all}
use Rattle.tcp_loop.specs.Fair.{Writes}
use Rattle.tcp_loop.proofs.serving.Loop.make_last_calls.Goals as goal

pub returns-in-Some-clause-keeps : goal.returns-in-Some-clause-keeps
returns-in-Some-clause-keeps g c = λ opened begun trace h.
    c.call.ensures.keeps opened begun trace (goes_on_with g.T.KeptTarget.means _ _ _ _ c.in-Some.ensures.first opened begun trace h)

pub returns-in-None-clause-keeps : goal.returns-in-None-clause-keeps
returns-in-None-clause-keeps g c = λ opened begun trace h. stops g.T.KeptTarget.means Pending _ _ _ opened begun trace h

pub returns-in-None-clause-fair : goal.returns-in-None-clause-fair
returns-in-None-clause-fair g c = λ o trace f. ends_all g.T.KeptTarget.means g.T.KeptTarget.free o trace _ _ _ (Writes 0) f

pub returns-in-Some-clause-ends : goal.returns-in-Some-clause-ends
returns-in-Some-clause-ends g c = c.call.ensures.ends
