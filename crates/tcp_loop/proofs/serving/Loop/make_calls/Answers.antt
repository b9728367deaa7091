use Rattle.tcp_loop.proofs.Progress.{call_commit, write_commit}
use Rattle.std.proofs.Common.{refl}
use Rattle.tcp_loop.proofs.Phasing.{goes_on_with, settles}
use Rattle.tcp_loop.proofs.serving.Loop.make_calls.Goals as goal

pub returns-in-Some-clause-keeps : goal.returns-in-Some-clause-keeps
returns-in-Some-clause-keeps g c = λ opened begun trace h.
    c.call.ensures.keeps opened begun trace (goes_on_with g.T.KeptTarget.means _ _ _ _ c.in-Some.ensures.first opened begun trace h)

pub returns-in-None-clause-keeps : goal.returns-in-None-clause-keeps
returns-in-None-clause-keeps g c = λ opened begun trace h.
    c.write.ensures.keeps opened begun trace (settles g.T.KeptTarget.means _ _ _ (c.in-None.ensures.none.0 refl) opened begun trace h)

pub returns-in-Some-clause-ends : goal.returns-in-Some-clause-ends
returns-in-Some-clause-ends g c = call_commit c.args.self.now.finished _ c.call.ensures.ends

pub returns-in-None-clause-ends : goal.returns-in-None-clause-ends
returns-in-None-clause-ends g c = write_commit _ c.write.ensures.ends
