use Rattle.std.proofs.Common.{rules, ◌≡◌, ◌≢◌, ◌<◌, ◌^◌, ◌++◌}
use Rattle.image_base.specs.Base.{label_of, this_device}
use Rattle.image_base.proofs.Fronts.{no_base_of_other}
use Rattle.image_base.proofs.Labels.{made_by_other, none_other}
use Rattle.image_base.proofs.front.other_maker.Goals as goal

pub returns-then-eq-clause-made : goal.returns-then-eq-clause-made
returns-then-eq-clause-made c =
    let maker = c.in_ok-maker.maker in
    let after = c.in_ok-after.after.now in
    let rest = c.in_ok-maker.field-0-1.now in
    let at : after ≡ label_of maker ++ rest = c.in_ok-maker.ensures in
    let same : maker ≡ this_device = search rules in
    none_other c.args.file.now after rest maker c.in_ok-after.ensures at same

pub returns-clause-no_base : goal.returns-clause-no_base
returns-clause-no_base c =
    let maker = c.in_ok-maker.maker in
    let after = c.in_ok-after.after.now in
    let rest = c.in_ok-maker.field-0-1.now in
    let at : after ≡ label_of maker ++ rest = c.in_ok-maker.ensures in
    let other : maker ≢ this_device = search rules in
    let version_fits : maker.version < 2 ^ 64 = search rules in
    let profile_fits : maker.profile < 2 ^ 64 = search rules in
    no_base_of_other maker c.args.file.now
    (made_by_other c.args.file.now after rest maker c.in_ok-after.ensures at version_fits profile_fits other)
