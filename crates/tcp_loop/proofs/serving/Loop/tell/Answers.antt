use Rattle.tcp_loop.proofs.Progress.{printed, printed_few}
use Rattle.tcp_loop.proofs.Fairness.{tells_begins}
use Rattle.tcp_loop.proofs.serving.Loop.tell.Goals as goal

pub returns-else-self-clause-fair : goal.returns-else-self-clause-fair
returns-else-self-clause-fair g c = λ o trace f. c.begin_round.ensures.fair o trace (tells_begins g.T.KeptTarget.means g.T.KeptTarget.free o trace _ _ _ c.if-self.false f)

pub returns-in-Some-clause-ends : goal.returns-in-Some-clause-ends
returns-in-Some-clause-ends g c = printed _ _ c.in-Some.ensures.fewer

pub returns-in-Some-clause-few : goal.returns-in-Some-clause-few
returns-in-Some-clause-few g c = printed_few _ _ c.next.ensures.few c.in-Some.ensures.fewer
