use Rattle.std.proofs.Common.{rules}
use Rattle.tcp_loop.proofs.Moving.{begins}
use Rattle.tcp_loop.proofs.Owing.{begun_made}
use Rattle.tcp_loop.proofs.serving.Loop.begin.Goals as goal

pub returns-clause-made : goal.returns-clause-made
returns-clause-made g c = λ carried came opened begun trace h. rw c.put_at.ensures (begins g.T.KeptTarget.means c.args.place carried came opened begun _ _ trace _ _ (search rules) c.open.ensures.done c.open.ensures.file h)

pub returns-clause-fair : goal.returns-clause-fair
returns-clause-fair g c = λ carried came o trace f.
    begun_made g.T.KeptTarget.means g.T.KeptTarget.free o c.args.place carried came trace _ _ _ _ _ _ _ _ c.open.ensures.done c.set.ensures.here c.set.ensures.others
    c.set-3.ensures.here c.set-3.ensures.others f
