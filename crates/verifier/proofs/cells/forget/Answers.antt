use Rattle.std.proofs.Common.{arith, ap, sym, ◌∙◌, ◌≡◌, None, slice_set}
use Rattle.std.proofs.lemmas.Int.{to_z-of_z}
use Rattle.verifier.proofs.Stores.{met_more, left_more, forgotten_all}
use Rattle.verifier.proofs.cells.forget.Goals as goal
use Rattle.verifier.proofs.cells.forget.Goals.{then-has_byte, else-has_byte}

pub loop-j-preserved : goal.loop-j-preserved
loop-j-preserved g c = elim c.if-has_byte.branch [
  | then-has_byte w ↦ w.cells-is ∙ ap (λ l. slice_set l c.loop-j.j None) c.loop-j.invariant
      ∙ met_more _ _ c.loop-j.j c.args.cells.now (omega arith) (sym c.has_byte.ensures ∙ w.if-has_byte.true)
  | else-has_byte w ↦ w.cells-is ∙ c.loop-j.invariant
      ∙ left_more _ _ c.loop-j.j c.args.cells.now (omega arith) (sym c.has_byte.ensures ∙ w.if-has_byte.false)
]

pub returns : goal.returns
returns g c =
    let whole : c.loop-j.j ≡ 64 = omega arith in
    let first = to_z-of_z _ c.args.first c.ranges.first in
    let last = to_z-of_z _ c.args.last c.ranges.last in
    let done = rw (whole, first, last) at c.loop-j.invariant in
    done ∙ forgotten_all c.args.first c.args.last c.args.cells.now c.told-cells
