use Rattle.std.proofs.Common.{◌≡◌, sym, ◌∙◌, arith}
use Rattle.std.proofs.lemmas.Bool.Decides.{Decides-eqb}
use Rattle.std.proofs.lemmas.Slice.Eq.{slice_eq-Decides}
use Rattle.durable_machine.specs.Journal.{BeginsClosed}
use Rattle.durable_machine.proofs.Comparing.{closed_long}
use Rattle.durable_machine.proofs.Sealing.{begins_closed, by_answer, closed_first}
use Rattle.durable_machine.proofs.journal_reading.begins_closed.Goals as goal

pub returns-in-Some : goal.returns-in-Some
returns-in-Some c =
    let bytes = c.args.bytes.now in
    by_answer c.eq.result (BeginsClosed bytes) (BeginsClosed bytes → ⊥) (c.in-Some.sector.now ≡ c.closed_sector.result) (slice_eq-Decides Decides-eqb _ _ _ c.eq.ensures)
    (λ same. begins_closed bytes (sym c.in-Some.ensures.cases.0 ∙ same ∙ c.closed_sector.ensures))
    (λ other shut. other (c.in-Some.ensures.cases.0 ∙ closed_first bytes shut ∙ sym c.closed_sector.ensures))

pub returns-in-None : goal.returns-in-None
returns-in-None c = λ shut. absurd (omega (arith, closed_long c.args.bytes.now shut, c.in-None.ensures.cases))
