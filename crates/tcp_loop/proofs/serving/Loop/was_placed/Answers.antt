use Rattle.std.proofs.Common.{sym, ◌∙◌}
use Rattle.tcp_loop.proofs.serving.Loop.was_placed.Goals as goal

pub returns-then-is_done-clause-keeps : goal.returns-then-is_done-clause-keeps
returns-then-is_done-clause-keeps g c = rw (sym c.is_done.ensures ∙ c.if-is_done.true) c.part_is_done.ensures.keeps

pub returns-else-is_done-clause-keeps : goal.returns-else-is_done-clause-keeps
returns-else-is_done-clause-keeps g c = rw (sym c.is_done.ensures ∙ c.if-is_done.false) c.part_is_not_done.ensures.keeps

pub returns-then-is_done-clause-ends : goal.returns-then-is_done-clause-ends
returns-then-is_done-clause-ends g c = c.part_is_done.ensures.ends

pub returns-else-is_done-clause-ends : goal.returns-else-is_done-clause-ends
returns-else-is_done-clause-ends g c = c.part_is_not_done.ensures.ends
