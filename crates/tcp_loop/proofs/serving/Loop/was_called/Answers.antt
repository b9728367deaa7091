use Rattle.tcp_loop.proofs.Progress.{fail_call}
use Rattle.std.proofs.Common.{sym, ◌∙◌}
use Rattle.tcp_loop.specs.Fair.{Writes}
use Rattle.tcp_loop.proofs.serving.Loop.was_called.Goals as goal

pub returns-then-is_done-clause-keeps : goal.returns-then-is_done-clause-keeps
returns-then-is_done-clause-keeps g c = rw (c.requires, sym c.is_done.ensures ∙ c.if-is_done.true) c.call_done.ensures.keeps

pub returns-else-is_done-clause-keeps : goal.returns-else-is_done-clause-keeps
returns-else-is_done-clause-keeps g c = c.fail.ensures.keeps _

pub returns-else-is_done-clause-fair : goal.returns-else-is_done-clause-fair
returns-else-is_done-clause-fair g c = c.fail.ensures.fair (Writes 0)

pub returns-then-is_done-clause-ends : goal.returns-then-is_done-clause-ends
returns-then-is_done-clause-ends g c = c.call_done.ensures.ends

pub returns-else-is_done-clause-ends : goal.returns-else-is_done-clause-ends
returns-else-is_done-clause-ends g c = fail_call c.args.self.now.finished _ c.fail.ensures.ends
