use Rattle.tcp_loop.proofs.Progress.{one_more}
use Rattle.std.proofs.Common.{◌∷◌, subst, sym}
use Rattle.tcp_loop.specs.Holding.{Holds}
use Rattle.tcp_loop.specs.Kept.{Resting}
use Rattle.tcp_loop.specs.declared.operation.Answer.{Answer}
use Rattle.tcp_loop.specs.declared.operation.Operation.TheVariants.{Accept}
use Rattle.tcp_loop.proofs.Moving.{not_begun}
use Rattle.tcp_loop.proofs.Fairness.{tells_accepts}
use Rattle.tcp_loop.proofs.Owing.{not_begun_made}
use Rattle.tcp_loop.proofs.serving.Loop.was_accepted.Goals as goal

pub returns-then-begins-clause-made : goal.returns-then-begins-clause-made
returns-then-begins-clause-made g c = λ carried came opened begun trace h.
    c.accept.ensures.keeps opened begun _
    (subst (λ (a : Answer). Holds g.T.KeptTarget.means opened begun (record { asked = Accept c.args.place; carried = carried; answer = a; came = came } ∷ trace)
    Resting (g.T.KeptTarget.at c.begin.new.self.target) c.begin.new.self.incoming.items c.begin.new.self.clock)
    (sym (c.begins_at-begins.ensures.yes c.if-begins.true).1) (c.begin.ensures.made carried came opened begun trace h))

pub returns-else-begins-clause-made : goal.returns-else-begins-clause-made
returns-else-begins-clause-made g c = λ carried came opened begun trace h.
    c.was_not_begun.ensures.keeps opened begun _
    (not_begun g.T.KeptTarget.means c.args.place carried came c.args.answer opened begun _ trace _ _ (c.begins_at-begins.ensures.no c.if-begins.false) h)

pub returns-then-begins-clause-fair : goal.returns-then-begins-clause-fair
returns-then-begins-clause-fair g c = λ carried came o trace f.
    rw (c.begins_at-begins.ensures.yes c.if-begins.true).1
    (c.accept.ensures.fair o _ (tells_accepts g.T.KeptTarget.means g.T.KeptTarget.free o _ _ _ _ c.args.more (c.begin.ensures.fair carried came o trace f)))

pub returns-else-begins-clause-fair : goal.returns-else-begins-clause-fair
returns-else-begins-clause-fair g c = λ carried came o trace f.
    c.was_not_begun.ensures.fair o _
    (not_begun_made g.T.KeptTarget.means g.T.KeptTarget.free o c.args.place carried came c.args.answer trace _ _ _ (c.begins_at-begins.ensures.no c.if-begins.false) f)

pub returns-then-begins-clause-ends : goal.returns-then-begins-clause-ends
returns-then-begins-clause-ends g c = one_more _ _ c.accept.ensures.ends

pub returns-else-begins-clause-ends : goal.returns-else-begins-clause-ends
returns-else-begins-clause-ends g c = c.was_not_begun.ensures.ends
