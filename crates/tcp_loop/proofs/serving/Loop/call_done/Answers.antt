use Rattle.tcp_loop.proofs.Progress.{time_call}
use Rattle.std.proofs.Common.{refl}
use Rattle.tcp_loop.proofs.Phasing.{tells_last, tells_next}
use Rattle.tcp_loop.proofs.Fairness.{fair_same}
use Rattle.tcp_loop.specs.Fair.{Writes}
use Rattle.tcp_loop.proofs.serving.Loop.call_done.Goals as goal

pub returns-in-Some-clause-keeps : goal.returns-in-Some-clause-keeps
returns-in-Some-clause-keeps g c = λ opened begun trace h.
    c.call.ensures.keeps opened begun trace (tells_next g.T.KeptTarget.means _ _ _ _ c.in-Some.ensures.first opened begun trace (c.call_done.ensures.keeps _ _ opened begun trace h))

pub returns-in-None-clause-keeps : goal.returns-in-None-clause-keeps
returns-in-None-clause-keeps g c = λ opened begun trace h.
    tells_last g.T.KeptTarget.means _ _ _ (c.in-None.ensures.none.0 refl) opened begun trace (c.call_done.ensures.keeps _ _ opened begun trace h)

pub returns-in-Some-clause-fair : goal.returns-in-Some-clause-fair
returns-in-Some-clause-fair g c = λ o trace f. c.call.ensures.fair o trace (fair_same g.T.KeptTarget.means g.T.KeptTarget.free o (Writes 0) trace _ _ _ _ c.call_done.ensures.same f)

pub returns-in-None-clause-fair : goal.returns-in-None-clause-fair
returns-in-None-clause-fair g c = λ o trace f. fair_same g.T.KeptTarget.means g.T.KeptTarget.free o (Writes 0) trace _ _ _ _ c.call_done.ensures.same f

pub returns-in-Some-clause-ends : goal.returns-in-Some-clause-ends
returns-in-Some-clause-ends g c = c.call.ensures.ends

pub returns-in-None-clause-ends : goal.returns-in-None-clause-ends
returns-in-None-clause-ends g c = time_call c.args.self.now.finished
