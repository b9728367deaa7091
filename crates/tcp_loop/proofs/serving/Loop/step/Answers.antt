use Rattle.std.proofs.Common.{sym, ◌∙◌}
use Rattle.tcp_loop.proofs.Making.{quiet}
use Rattle.tcp_loop.proofs.serving.Loop.step.Goals as goal

pub go_on-requires-clause-moves_none : goal.go_on-requires-clause-moves_none
go_on-requires-clause-moves_none g c = sym c.is_quiet.ensures ∙ c.if-is_quiet.true

pub returns-then-is_quiet-clause-made : goal.returns-then-is_quiet-clause-made
returns-then-is_quiet-clause-made g c = λ carried ok opened begun trace h.
    c.go_on.ensures.keeps opened begun _
    (quiet g.T.KeptTarget.means c.args.self.now.stage carried c.args.came.now c.args.answer opened begun _ trace _ _ (sym c.is_quiet.ensures ∙ c.if-is_quiet.true) ok h)

pub returns-else-is_quiet-clause-made : goal.returns-else-is_quiet-clause-made
returns-else-is_quiet-clause-made g c = λ carried ok. c.take.ensures.made carried ok

pub returns-then-is_quiet-clause-fair : goal.returns-then-is_quiet-clause-fair
returns-then-is_quiet-clause-fair g c = λ carried o trace f. c.go_on.ensures.fair carried c.args.came.now o trace f

pub returns-else-is_quiet-clause-fair : goal.returns-else-is_quiet-clause-fair
returns-else-is_quiet-clause-fair g c = λ carried o trace f. c.take.ensures.fair carried o trace f

pub returns-then-is_quiet-clause-ends : goal.returns-then-is_quiet-clause-ends
returns-then-is_quiet-clause-ends g c = c.go_on.ensures.ends

pub returns-else-is_quiet-clause-ends : goal.returns-else-is_quiet-clause-ends
returns-else-is_quiet-clause-ends g c = c.take.ensures.ends
