use Rattle.std.proofs.Common.{inl, inr, refl, arith, ap, length, ◌∷◌, ℕ, ◌∙◌}
use Rattle.durable_machine.proofs.Comparing.{other_tag}
use Rattle.durable_machine.proofs.journal_reading.seal_length.Goals as goal

pub returns-in_default : goal.returns-in_default
returns-in_default c = inr (refl, λ rest is. absurd (omega (arith, c.in_default.ensures.cases, ap length is)))

pub returns-then-tag : goal.returns-then-tag
returns-then-tag c = inl (refl, _, c.in-Some.ensures.cases.0 ∙ ap (λ (t : ℕ). t ∷ c.in-Some.field-0-1.now) c.if-tag.true)

pub returns-else-tag : goal.returns-else-tag
returns-else-tag c = inr (refl, other_tag c.args.payload.now c.in-Some.tag.now _ c.in-Some.ensures.cases.0 c.if-tag.false)
