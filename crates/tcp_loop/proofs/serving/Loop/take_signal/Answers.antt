use Rattle.tcp_loop.proofs.Owing.{or_false, signalled_made}
use Rattle.std.proofs.Common.{Bool, ap, ◌∙◌, ◌||◌}
use Rattle.tcp_loop.proofs.serving.Loop.take_signal.Goals as goal

pub returns-clause-fair : goal.returns-clause-fair
returns-clause-fair g c = λ carried came o trace f.
    c.read.ensures.fair o _
    (signalled_made g.T.KeptTarget.means g.T.KeptTarget.free o carried came c.args.answer trace _ _ _ _
    (λ so. c.either-self.ensures ∙ ap (λ (b : Bool). c.args.self.now.hosts.ends || b) (c.is_to_end-ends.ensures ∙ so) ∙ or_false c.args.self.now.hosts.ends) f)

pub returns-clause-ends : goal.returns-clause-ends
returns-clause-ends g c = c.read.ensures.ends
