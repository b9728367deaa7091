use Rattle.tcp_loop.proofs.Progress.{fail_call}
use Rattle.tcp_loop.proofs.Fairness.{fair_same}
use Rattle.tcp_loop.specs.Fair.{Writes}
use Rattle.tcp_loop.proofs.serving.Loop.fold.Goals as goal

pub returns-then-put-clause-fair : goal.returns-then-put-clause-fair
returns-then-put-clause-fair g c = λ o trace f. fair_same g.T.KeptTarget.means g.T.KeptTarget.free o (Writes 0) trace _ _ _ _ c.fold.ensures.same f

pub returns-else-put-clause-fair : goal.returns-else-put-clause-fair
returns-else-put-clause-fair g c = λ o trace f. c.was_not_made.ensures.fair o trace (fair_same g.T.KeptTarget.means g.T.KeptTarget.free o (Writes 0) trace _ _ _ _ c.fold.ensures.same f)

pub returns-in-Err-clause-fair : goal.returns-in-Err-clause-fair
returns-in-Err-clause-fair g c = λ o trace f. c.fail.ensures.fair (Writes 0) o trace (fair_same g.T.KeptTarget.means g.T.KeptTarget.free o (Writes 0) trace _ _ _ _ c.fold.ensures.same f)

pub returns-else-put-clause-ends : goal.returns-else-put-clause-ends
returns-else-put-clause-ends g c = c.was_not_made.ensures.ends

pub returns-in-Err-clause-ends : goal.returns-in-Err-clause-ends
returns-in-Err-clause-ends g c = fail_call c.args.self.now.finished _ c.fail.ensures.ends
