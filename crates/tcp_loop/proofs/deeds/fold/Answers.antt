use Rattle.std.proofs.Common.{◌∙◌}
use Rattle.tcp_loop.specs.Kept.{Folding}
use Rattle.tcp_loop.proofs.Phasing.{folds, folds_not, stops_at}
use Rattle.tcp_loop.proofs.deeds.fold.Goals as goal

pub returns-then-put-clause-put : goal.returns-then-put-clause-put
returns-then-put-clause-put g c = λ so waiting clock. folds g.T.KeptTarget.means _ _ _ _ waiting clock c.if-put.true (c.call_done.ensures.same ∙ c.in-Ok.ensures.same) c.in-Ok.ensures.folded c.call_done.ensures.told

pub returns-else-put-clause-not_put : goal.returns-else-put-clause-not_put
returns-else-put-clause-not_put g c = λ so waiting clock. folds_not g.T.KeptTarget.means _ _ _ waiting clock c.if-put.false c.in-Ok.ensures.same c.in-Ok.ensures.folded

pub returns-in-Err-clause-failed : goal.returns-in-Err-clause-failed
returns-in-Err-clause-failed g c = λ waiting clock. stops_at g.T.KeptTarget.means Folding _ _ waiting clock c.in-Err.ensures.same
