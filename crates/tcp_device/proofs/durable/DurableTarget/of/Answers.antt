use Rattle.std.proofs.Common.{ℕ, List, refl, subst, ◌∙◌}
use Rattle.durable_device.specs.Kept.{IsCommittedBut}
use Rattle.handed_file.specs.Handed.{told}
use Rattle.tcp_device.proofs.Covering.{begins}
use Rattle.tcp_device.proofs.durable.DurableTarget.of.Goals as goal

pub returns-clause-covers : goal.returns-clause-covers
returns-clause-covers c none refused nothing =
    let keeper = c.args.keeper in
    let file = keeper.events.journal.file in
    let device = c.args.served.device in
    begins file device keeper.events.journal.gate c.args.served refl
    (c.rests.ensures.all_settled device keeper.events.journal
    (subst (λ (w : List ℕ). IsCommittedBut w device keeper.events.journal.gate (told file)) none c.requires))
    (c.has_failed-failed.ensures.order (c.has_failed-failed.ensures.refused ∙ refused)) nothing
