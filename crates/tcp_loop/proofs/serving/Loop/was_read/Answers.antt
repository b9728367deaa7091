use Rattle.std.proofs.Common.{sym, ◌∙◌}
use Rattle.tcp_loop.proofs.Lists.{set_as_is}
use Rattle.tcp_loop.proofs.Owing.{came_is}
use Rattle.tcp_loop.proofs.serving.Loop.was_read.Goals as goal

pub returns-then-has_come-clause-keeps : goal.returns-then-has_come-clause-keeps
returns-then-has_come-clause-keeps g c = rw (sym c.has_come.ensures ∙ c.if-has_come.true) c.take_piece.ensures.keeps

pub returns-else-has_come-clause-keeps : goal.returns-else-has_come-clause-keeps
returns-else-has_come-clause-keeps g c =
    rw (sym c.has_come.ensures ∙ c.if-has_come.false) (rw (set_as_is c.args.self.now.incoming.items c.args.place _ c.requires.empty) c.read_none.ensures.keeps)

pub returns-then-has_come-clause-fair : goal.returns-then-has_come-clause-fair
returns-then-has_come-clause-fair g c = λ carried.
    rw (came_is c.args.answer (sym c.has_come.ensures ∙ c.if-has_come.true)) (c.take_piece.ensures.fair carried c.args.came.now)

pub returns-else-has_come-clause-fair : goal.returns-else-has_come-clause-fair
returns-else-has_come-clause-fair g c = λ carried. c.read_none.ensures.fair carried c.args.came.now

pub read_none-requires-clause-none : goal.read_none-requires-clause-none
read_none-requires-clause-none g c = sym c.has_come.ensures ∙ c.if-has_come.false

pub returns-then-has_come-clause-ends : goal.returns-then-has_come-clause-ends
returns-then-has_come-clause-ends g c = c.take_piece.ensures.ends

pub returns-else-has_come-clause-ends : goal.returns-else-has_come-clause-ends
returns-else-has_come-clause-ends g c = c.read_none.ensures.ends
