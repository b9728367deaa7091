use Rattle.std.proofs.Common.{◌≡◌, Ok, arith, refl}
use Rattle.std.proofs.lemmas.Result.{err_from_is_err_and}
use Rattle.image_store.specs.Geometry.{tested}
use Rattle.command_images.specs.Images.{IsAskedFor}
use Rattle.command_images.proofs.Making.{asked_and_passed, spells_none}
use Rattle.command_images.proofs.format.geometry.Goals as goal

made : (c : goal.In-Ok) → IsAskedFor c.args.matches.now c.in-Ok.geometry × (tested c.in-Ok.geometry ≡ Ok c.in-Ok.geometry)
made c =
    asked_and_passed c.args.matches.now _ c.in-Ok.geometry (record {
      block = c.in_ok-block.ensures.value;
      zones = c.in_ok-zones.ensures.value;
      size = c.in_ok-size.ensures.value;
      capacity = c.in_ok-capacity.ensures.value;
      open_limit = c.in_ok-number.ensures.value;
      active_limit = c.in_ok-number-2.ensures.value;
    }) c.in-Ok.ensures

pub returns-in-Ok-clause-asked : goal.returns-in-Ok-clause-asked
returns-in-Ok-clause-asked c = (made c).0

pub returns-in-Ok-clause-passes : goal.returns-in-Ok-clause-passes
returns-in-Ok-clause-passes c = (made c).1

pub returns-in_err-block-clause-refused : goal.returns-in_err-block-clause-refused
returns-in_err-block-clause-refused c =
    let p = err_from_is_err_and c.from_residual.result c.from_residual.ensures.1 in
    rw (p.1, p.2) (spells_none c.args.matches.now _ _ (0, omega arith, refl) c.in_err-block.ensures.unspelled)

pub returns-in_err-zones-clause-refused : goal.returns-in_err-zones-clause-refused
returns-in_err-zones-clause-refused c =
    let p = err_from_is_err_and c.from_residual-in_err-zones.result c.from_residual-in_err-zones.ensures.1 in
    rw (p.1, p.2) (spells_none c.args.matches.now _ _ (1, omega arith, refl) c.in_err-zones.ensures.unspelled)

pub returns-in_err-size-clause-refused : goal.returns-in_err-size-clause-refused
returns-in_err-size-clause-refused c =
    let p = err_from_is_err_and c.from_residual-in_err-size.result c.from_residual-in_err-size.ensures.1 in
    rw (p.1, p.2) (spells_none c.args.matches.now _ _ (2, omega arith, refl) c.in_err-size.ensures.unspelled)

pub returns-in_err-capacity-clause-refused : goal.returns-in_err-capacity-clause-refused
returns-in_err-capacity-clause-refused c =
    let p = err_from_is_err_and c.from_residual-in_err-capacity.result c.from_residual-in_err-capacity.ensures.1 in
    rw (p.1, p.2) (spells_none c.args.matches.now _ _ (3, omega arith, refl) c.in_err-capacity.ensures.unspelled)

pub returns-in_err-number-clause-refused : goal.returns-in_err-number-clause-refused
returns-in_err-number-clause-refused c =
    let p = err_from_is_err_and c.from_residual-in_err-number.result c.from_residual-in_err-number.ensures.1 in
    rw (p.1, p.2) (spells_none c.args.matches.now _ _ (4, omega arith, refl) c.in_err-number.ensures.unspelled)

pub returns-in_err-number-2-clause-refused : goal.returns-in_err-number-2-clause-refused
returns-in_err-number-2-clause-refused c =
    let p = err_from_is_err_and c.from_residual-in_err-number-2.result c.from_residual-in_err-number-2.ensures.1 in
    rw (p.1, p.2) (spells_none c.args.matches.now _ _ (5, omega arith, refl) c.in_err-number-2.ensures.unspelled)
