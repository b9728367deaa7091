use Rattle.std.proofs.Common.{ap, ◌∙◌}
use Rattle.accepted_programs.specs.Facts.{with_compared}
use Rattle.accepted_programs.specs.declared.facts.Facts.{Facts}
use Rattle.verifier.proofs.Gifts.{edge_replaced}
use Rattle.verifier.proofs.rows.split.Goals as goal

pub returns-clause-facts : goal.returns-clause-facts
returns-clause-facts g c =
    let ops = g.D.Domain.operations in
    let along : Facts g.row.D.Denot → Facts g.row.D.Denot =
    λ facts. with_compared ops c.args.dst c.args.source.now (record facts { fit = c.args.facts.now.fit }) c.args.not_taken in
    c.set_both-2.ensures ∙ ap along c.set_both.ensures
    ∙ edge_replaced ops c.args.facts.now c.args.dst c.args.source.now c.args.taken c.args.not_taken
