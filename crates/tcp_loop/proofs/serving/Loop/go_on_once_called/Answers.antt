use Rattle.tcp_loop.proofs.Progress.{time_some, write_time}
use Rattle.tcp_loop.proofs.Phasing.{stops}
use Rattle.tcp_loop.specs.Kept.{Settled}
use Rattle.tcp_loop.proofs.Fairness.{ends_all}
use Rattle.tcp_loop.specs.Fair.{Writes}
use Rattle.tcp_loop.proofs.serving.Loop.go_on_once_called.Goals as goal

pub returns-then-finished-clause-keeps : goal.returns-then-finished-clause-keeps
returns-then-finished-clause-keeps g c = λ opened begun trace h. stops g.T.KeptTarget.means Settled _ _ _ opened begun trace h

pub returns-then-finished-clause-fair : goal.returns-then-finished-clause-fair
returns-then-finished-clause-fair g c = λ o trace f. ends_all g.T.KeptTarget.means g.T.KeptTarget.free o trace _ _ _ (Writes 0) f

pub returns-then-finished-clause-ends : goal.returns-then-finished-clause-ends
returns-then-finished-clause-ends g c = time_some c.args.self.now.finished

pub returns-else-finished-clause-ends : goal.returns-else-finished-clause-ends
returns-else-finished-clause-ends g c = write_time c.args.self.now.finished _ c.if-finished.false c.write.ensures.ends
