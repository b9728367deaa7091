use Rattle.std.proofs.Common.{◌∙◌, ap, sym}
use Rattle.accepted_programs.specs.Emitted.{group_in}
use Rattle.accepted_programs.specs.declared.facts.Facts.{Facts}
use Rattle.verifier.specs.steps.Rows.{held}
use Rattle.verifier.proofs.judging.group.Goals as goal

pub returns-in-Some : goal.returns-in-Some
returns-in-Some g c =
    ap (λ (facts : Facts g.row.D.Denot). facts.emitted) c.deref.ensures ∙ ap (λ row. group_in (held row)) (sym c.in-Some.is)

pub returns-in-None : goal.returns-in-None
returns-in-None g c = ap (λ row. group_in (held row)) (sym c.in-None.is)
