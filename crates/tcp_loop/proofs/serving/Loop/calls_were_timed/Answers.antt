use Rattle.tcp_loop.proofs.Making.{skipped_at}
use Rattle.tcp_loop.proofs.serving.Loop.calls_were_timed.Goals as goal

pub returns-clause-made : goal.returns-clause-made
returns-clause-made g c = λ carried came opened begun trace h.
    c.go_on_once_called.ensures.keeps opened begun _
    (skipped_at g.T.KeptTarget.means carried came opened begun _ trace _ _ _ c.args.answer c.skip.ensures h)

pub returns-clause-ends : goal.returns-clause-ends
returns-clause-ends g c = c.go_on_once_called.ensures.ends
