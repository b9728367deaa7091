use Rattle.tcp_loop.proofs.Progress.{next_read}
use Rattle.tcp_loop.proofs.Fairness.{reads_first, reads_none}
use Rattle.tcp_loop.proofs.serving.Loop.read.Goals as goal

pub returns-in-Some-clause-fair : goal.returns-in-Some-clause-fair
returns-in-Some-clause-fair g c = λ o trace f. reads_first g.T.KeptTarget.means g.T.KeptTarget.free o trace _ _ _ c.args.from c.in-Some.place c.in-Some.ensures.first f

pub returns-in-None-clause-fair : goal.returns-in-None-clause-fair
returns-in-None-clause-fair g c = λ o trace f. reads_none g.T.KeptTarget.means g.T.KeptTarget.free o trace _ _ _ c.args.from c.in-None.ensures.first f

pub returns-in-Some-clause-ends : goal.returns-in-Some-clause-ends
returns-in-Some-clause-ends g c = next_read c.args.from c.in-Some.place c.in-Some.ensures.first.0
