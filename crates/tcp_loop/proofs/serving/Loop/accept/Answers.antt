use Rattle.tcp_loop.proofs.Progress.{print_take, taken_one}
use Rattle.tcp_loop.proofs.Fairness.{to_takes, to_tells}
use Rattle.tcp_loop.proofs.serving.Loop.accept.Goals as goal

pub returns-then-may_accept-clause-fair : goal.returns-then-may_accept-clause-fair
returns-then-may_accept-clause-fair g c = λ o trace f. to_takes g.T.KeptTarget.means g.T.KeptTarget.free o trace _ _ _ c.args.more f

pub returns-else-may_accept-clause-fair : goal.returns-else-may_accept-clause-fair
returns-else-may_accept-clause-fair g c = λ o trace f. c.tell.ensures.fair o trace (to_tells g.T.KeptTarget.means g.T.KeptTarget.free o trace _ _ _ c.args.more (c.may_accept.ensures.no c.if-may_accept.false) f)

pub returns-then-may_accept-clause-ends : goal.returns-then-may_accept-clause-ends
returns-then-may_accept-clause-ends g c = taken_one c.args.more (c.may_accept.ensures.yes c.if-may_accept.true)

pub returns-else-may_accept-clause-ends : goal.returns-else-may_accept-clause-ends
returns-else-may_accept-clause-ends g c = print_take _ c.args.more c.tell.ensures.few
