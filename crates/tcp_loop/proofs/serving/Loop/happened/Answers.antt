use Rattle.tcp_loop.proofs.Progress.{read_most}
use Rattle.tcp_loop.proofs.Owing.{polled_made}
use Rattle.tcp_loop.proofs.serving.Loop.happened.Goals as goal

pub returns-then-self-clause-fair : goal.returns-then-self-clause-fair
returns-then-self-clause-fair g c = λ watched milliseconds carried came o trace f.
    polled_made g.T.KeptTarget.means g.T.KeptTarget.free o watched milliseconds carried came c.args.answer trace _ _ _ _ _ c.ready_of-self.ensures.reads c.ready_of-self.ensures.writes
    c.ready_of-self.ensures.accepts c.still_full-self.ensures f

pub returns-else-self-clause-fair : goal.returns-else-self-clause-fair
returns-else-self-clause-fair g c = λ watched milliseconds carried came o trace f.
    c.read.ensures.fair o _
    (polled_made g.T.KeptTarget.means g.T.KeptTarget.free o watched milliseconds carried came c.args.answer trace _ _ _ _ _ c.ready_of-self.ensures.reads c.ready_of-self.ensures.writes
    c.ready_of-self.ensures.accepts c.still_full-self.ensures f)

pub returns-else-self-clause-ends : goal.returns-else-self-clause-ends
returns-else-self-clause-ends g c = read_most _ c.read.ensures.ends
