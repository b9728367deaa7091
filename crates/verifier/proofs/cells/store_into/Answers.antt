use Rattle.std.proofs.Common.{◌≡◌, ◌∙◌, ℕ, ap, Option, Some, sym}
use Rattle.std.proofs.lemmas.Int.{to_z-of_z}
use Rattle.accepted_programs.specs.Cells.{cell_of, filled, overwritten}
use Rattle.verifier.proofs.cells.store_into.Goals as goal

pub returns-in-Some-Some : goal.returns-in-Some-Some
returns-in-Some-Some g c =
    let cells = c.args.cells.now in
    let others = overwritten c.args.told c.args.offset c.args.size cells in
    let cell : Some c.in-Some-Some.cell ≡ cell_of c.args.told c.args.offset = rw (to_z-of_z _ c.args.offset c.ranges.offset) at c.in-Some-Some.ensures in
    ap (λ (o : Option ℕ). filled o (Some c.in-Some-Some.word) cells others) cell
    ∙ ap (λ (o : Option g.row.D.Denot). filled (cell_of c.args.told c.args.offset) o cells others) (sym c.in-Some-Some.is-1)
