use Rattle.std.proofs.Common.{rules, ◌≤◌, length}
use Rattle.std.proofs.lemmas.Bool.Decides.{Decides-eqb}
use Rattle.std.proofs.lemmas.Slice.Eq.{slice_eq-Decides}
use Rattle.durable_machine.proofs.Sealing.{same_seal, no_seal}
use Rattle.durable_machine.proofs.journal_reading.is_seal.Goals as goal

pub returns-in-Some : goal.returns-in-Some
returns-in-Some c =
    let long : 21 ≤ length c.args.seal.now = search rules in
    same_seal c.args.at c.args.events.now c.args.seal.now c.in-Some.whole.now c.seal_bytes.result c.eq.result c.requires long c.in-Some.ensures.cases.0 c.seal_bytes.ensures
    (slice_eq-Decides Decides-eqb _ _ _ c.eq.ensures)

pub returns-in-None : goal.returns-in-None
returns-in-None c =
    no_seal c.args.at c.args.events.now c.args.seal.now _ c.requires c.in-None.ensures.cases (search rules)
