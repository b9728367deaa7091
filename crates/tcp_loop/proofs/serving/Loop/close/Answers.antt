use Rattle.tcp_loop.proofs.Progress.{closing_one, take_close}
use Rattle.tcp_loop.proofs.Fairness.{to_accepts}
use Rattle.tcp_loop.proofs.serving.Loop.close.Goals as goal

pub returns-in-None-clause-fair : goal.returns-in-None-clause-fair
returns-in-None-clause-fair g c = λ o trace f. c.accept.ensures.fair o trace (to_accepts g.T.KeptTarget.means g.T.KeptTarget.free o trace _ _ _ c.in-None.ensures.first f)

pub returns-in-Some-clause-ends : goal.returns-in-Some-clause-ends
returns-in-Some-clause-ends g c = closing_one c.in-Some.place _ c.in-Some.ensures.first.1 c.in-Some.ensures.there

pub returns-in-None-clause-ends : goal.returns-in-None-clause-ends
returns-in-None-clause-ends g c = take_close _ _ c.accept.ensures.ends
