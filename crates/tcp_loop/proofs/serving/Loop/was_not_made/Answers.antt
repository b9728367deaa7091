use Rattle.tcp_loop.proofs.Progress.{fail_call}
use Rattle.tcp_loop.specs.Fair.{Writes}
use Rattle.tcp_loop.proofs.serving.Loop.was_not_made.Goals as goal

pub returns-then-wants-clause-keeps : goal.returns-then-wants-clause-keeps
returns-then-wants-clause-keeps g c = rw c.if-wants.true (λ opened begun trace h. h)

pub returns-else-wants-clause-keeps : goal.returns-else-wants-clause-keeps
returns-else-wants-clause-keeps g c = c.fail.ensures.keeps _

pub returns-else-wants-clause-fair : goal.returns-else-wants-clause-fair
returns-else-wants-clause-fair g c = c.fail.ensures.fair (Writes 0)

pub returns-else-wants-clause-ends : goal.returns-else-wants-clause-ends
returns-else-wants-clause-ends g c = fail_call c.args.self.now.finished _ c.fail.ensures.ends
