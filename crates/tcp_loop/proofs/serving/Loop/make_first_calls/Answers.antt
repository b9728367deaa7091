use Rattle.tcp_loop.proofs.Progress.{call_most}
use Rattle.std.proofs.Common.{refl}
use Rattle.tcp_loop.proofs.Phasing.{begins_at_rest, begins_by}
use Rattle.tcp_loop.proofs.serving.Loop.make_first_calls.Goals as goal

pub returns-in-Some-clause-keeps : goal.returns-in-Some-clause-keeps
returns-in-Some-clause-keeps g c = λ opened begun trace h.
    c.call.ensures.keeps opened begun trace (begins_by g.T.KeptTarget.means _ _ _ _ c.in-Some.ensures.first opened begun trace h)

pub returns-in-None-clause-keeps : goal.returns-in-None-clause-keeps
returns-in-None-clause-keeps g c = λ opened begun trace h.
    begins_at_rest g.T.KeptTarget.means _ _ _ (c.in-None.ensures.none.0 refl) opened begun trace h

pub returns-in-Some-clause-ends : goal.returns-in-Some-clause-ends
returns-in-Some-clause-ends g c = call_most c.args.self.now.finished _ c.call.ensures.ends
