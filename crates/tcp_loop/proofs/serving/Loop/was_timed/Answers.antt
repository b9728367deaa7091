use Rattle.tcp_loop.proofs.Making.{timed_at}
use Rattle.tcp_loop.proofs.serving.Loop.was_timed.Goals as goal

pub returns-clause-made : goal.returns-clause-made
returns-clause-made g c = λ carried came opened begun trace h.
    c.commit.ensures.keeps opened begun _
    (timed_at g.T.KeptTarget.means carried came opened begun _ trace _ _ _ c.args.answer c.count.ensures h)

pub returns-clause-ends : goal.returns-clause-ends
returns-clause-ends g c = c.commit.ensures.ends
