use Rattle.tcp_loop.proofs.Holding.{explained}
use Rattle.tcp_loop.proofs.serving.Loop.is_explained.Goals as goal

pub returns : goal.returns
returns g c = λ opened begun trace h. explained g.T.KeptTarget.means opened begun trace _ _ _ _ h
