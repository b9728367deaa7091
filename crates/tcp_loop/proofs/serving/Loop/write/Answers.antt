use Rattle.tcp_loop.proofs.Progress.{close_write, next_write}
use Rattle.tcp_loop.proofs.Fairness.{writes_first, writes_none}
use Rattle.tcp_loop.proofs.serving.Loop.write.Goals as goal

pub returns-in-None-clause-keeps : goal.returns-in-None-clause-keeps
returns-in-None-clause-keeps g c = λ opened begun trace h.
    c.close.ensures.keeps opened begun trace (c.tick.ensures.keeps opened begun trace h)

pub returns-in-Some-clause-fair : goal.returns-in-Some-clause-fair
returns-in-Some-clause-fair g c = λ o trace f. writes_first g.T.KeptTarget.means g.T.KeptTarget.free o trace _ _ _ c.args.from c.in-Some.place c.in-Some.ensures f

pub returns-in-None-clause-fair : goal.returns-in-None-clause-fair
returns-in-None-clause-fair g c = λ o trace f. c.close.ensures.fair o trace (c.tick.ensures.fair o trace (writes_none g.T.KeptTarget.means g.T.KeptTarget.free o trace _ _ _ c.args.from c.in-None.ensures f))

pub returns-in-Some-clause-ends : goal.returns-in-Some-clause-ends
returns-in-Some-clause-ends g c = next_write c.args.from c.in-Some.place c.in-Some.ensures.0

pub returns-in-None-clause-ends : goal.returns-in-None-clause-ends
returns-in-None-clause-ends g c = close_write c.args.from _ c.tick.new.self.hosts.there c.close.ensures.ends
