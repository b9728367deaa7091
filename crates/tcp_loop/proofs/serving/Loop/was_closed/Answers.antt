use Rattle.tcp_loop.proofs.Progress.{closed_one}
use Rattle.tcp_loop.proofs.Owing.{closed_made}
use Rattle.tcp_loop.proofs.serving.Loop.was_closed.Goals as goal

pub returns-clause-made : goal.returns-clause-made
returns-clause-made g c = λ carried came answer opened begun trace h.
    c.close-2.ensures.keeps opened begun _ (c.close.ensures.made _ _ carried came answer opened begun trace h)

pub returns-clause-fair : goal.returns-clause-fair
returns-clause-fair g c = λ carried came answer o trace f.
    c.close-2.ensures.fair o _
    (closed_made g.T.KeptTarget.means g.T.KeptTarget.free o c.args.place carried came answer trace _ _ _ _ _ c.close.ensures.did c.set.ensures.here c.set.ensures.others f)

pub returns-clause-ends : goal.returns-clause-ends
returns-clause-ends g c = closed_one c.args.place _ _ _ c.requires c.set.ensures.here c.set.ensures.others c.close-2.ensures.ends
