use Rattle.tcp_loop.proofs.Phasing.{makes_new}
use Rattle.std.proofs.Common.{sym}
use Rattle.tcp_loop.proofs.serving.Loop.call.Goals as goal

pub returns-in-Some-clause-keeps : goal.returns-in-Some-clause-keeps
returns-in-Some-clause-keeps g c = λ opened begun trace h.
    makes_new g.T.KeptTarget.means c.args.call c.in-Some.wants _ _ _ (sym c.in-Some.ensures) opened begun trace h
