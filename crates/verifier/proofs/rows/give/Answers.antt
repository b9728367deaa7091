use Rattle.std.proofs.Common.{◌∙◌, ap, None, Option, Some}
use Rattle.std.proofs.lemmas.List.{get_or_default}
use Rattle.accepted_programs.specs.Facts.{merge}
use Rattle.accepted_programs.specs.declared.facts.Facts.{Facts}
use Rattle.verifier.specs.steps.Rows.{held}
use Rattle.verifier.proofs.Gifts.{given_one}
use Rattle.verifier.proofs.rows.give.Goals as goal

pub returns-clause-given : goal.returns-clause-given
returns-clause-given g c =
    let ops = g.D.Domain.operations in
    let there = ap held (get_or_default c.args.rows.now c.args.to c.index-rows-to.result None c.requires) in
    given_one ops c.args.to c.args.facts.value c.args.rows.now c.add.new.row c.requires
    (c.add.ensures ∙ ap (λ (o : Option (Facts g.row.D.Denot)). merge ops o (Some c.args.facts.value)) there)
