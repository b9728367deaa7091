use Rattle.std.proofs.Common.{◌∙◌, ap, false, true}
use Rattle.accepted_programs.specs.declared.facts.Facts.{Facts}
use Rattle.verifier.specs.steps.Instructions.{told_along}
use Rattle.verifier.proofs.Gifts.{given_by_compare, given_by_jump}
use Rattle.verifier.proofs.rows.jump.Goals as goal

pub returns-in_default : goal.returns-in_default
returns-in_default g c = record {
  len = c.give.ensures.len;
  given = given_by_jump g.D.Domain.operations c.args.instruction.now c.args.facts.value c.args.behind c.args.target
      c.args.rows.now c.give.new.rows c.requires.jumps c.in_default.not-Branch c.give.ensures.given;
}

pub returns-clause-given : goal.returns-clause-given
returns-clause-given g c =
    let ops = g.D.Domain.operations in
    let b = c.in-Branch in
    given_by_compare ops c.give_edges.result c.args.instruction.now b.width b.relation b.dst b.source b.distance
    c.args.facts.value c.args.behind c.args.target c.refined.result c.refined-2.result c.args.rows.now c.give_edges.new.rows b.is
    (c.refined.ensures ∙ ap (λ (facts : Facts g.row.D.Denot). told_along ops false b.width b.relation b.dst b.source facts) c.deref.ensures)
    (c.refined-2.ensures ∙ ap (λ (facts : Facts g.row.D.Denot). told_along ops true b.width b.relation b.dst b.source facts) c.deref-2.ensures)
    c.give_edges.ensures.given
