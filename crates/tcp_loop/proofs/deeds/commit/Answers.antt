use Rattle.tcp_loop.specs.Kept.{Due}
use Rattle.tcp_loop.proofs.Phasing.{commits, stops_at}
use Rattle.tcp_loop.proofs.deeds.commit.Goals as goal

pub returns-in-Ok-clause-done : goal.returns-in-Ok-clause-done
returns-in-Ok-clause-done g c = λ waiting clock. commits g.T.KeptTarget.means _ _ waiting clock c.in-Ok.ensures.same c.in-Ok.ensures.committed

pub returns-in-Err-clause-failed : goal.returns-in-Err-clause-failed
returns-in-Err-clause-failed g c = λ waiting clock. stops_at g.T.KeptTarget.means Due _ _ waiting clock c.in-Err.ensures.same
