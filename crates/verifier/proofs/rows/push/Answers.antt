use Rattle.std.proofs.Common.{rules, sym, ◌∙◌}
use Rattle.verifier.proofs.Gifts.{jumped, stepped}
use Rattle.verifier.proofs.rows.push.Goals as goal

pub returns-in-Some-clause-given : goal.returns-in-Some-clause-given
returns-in-Some-clause-given g c = λ s within.
    jumped g.D.Domain.operations c.args.instruction.now c.args.slot c.args.facts.value c.args.block c.in-Some.distance
    c.slot_behind-behind.result c.unsigned_abs-target.result s _ _
    (sym c.distance.ensures ∙ c.in-Some.is) (search rules) c.slot_behind-behind.ensures
    (c.in_ok-jump.ensures.given c.args.block s within)

pub returns-then-step-clause-given : goal.returns-then-step-clause-given
returns-then-step-clause-given g c = λ s within.
    stepped g.D.Domain.operations c.args.instruction.now c.args.slot c.args.facts.value c.args.block
    c.slot_behind-behind.result s _ _ _ (sym c.distance.ensures ∙ c.in_default.is) c.slot_behind-behind.ensures
    (rw (c.if-step.true, c.deref_mut.ensures.value) at c.step.ensures) (c.give.ensures.given s within)
