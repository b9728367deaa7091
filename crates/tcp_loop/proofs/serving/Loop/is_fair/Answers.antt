use Rattle.tcp_loop.proofs.Fair.{is_fair_to}
use Rattle.tcp_loop.proofs.serving.Loop.is_fair.Goals as goal

pub returns : goal.returns
returns g c = λ o trace f. is_fair_to g.T.KeptTarget.means g.T.KeptTarget.free o c.args.self.now.stage trace _ _ _ c.requires f
