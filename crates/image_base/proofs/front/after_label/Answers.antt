use Rattle.std.proofs.Common.{rules, ◌≡◌, ◌≢◌, ◌<◌, ◌^◌, ◌++◌}
use Rattle.image_base.specs.Base.{label_of, this_device}
use Rattle.image_base.proofs.Labels.{is_after_ours, none_after}
use Rattle.image_base.proofs.front.after_label.Goals as goal

pub returns-then-ne : goal.returns-then-ne
returns-then-ne c =
    let maker = c.in-Some.maker in
    let after = c.in_ok-after.after.now in
    let rest = c.in-Some.rest.now in
    let at : after ≡ label_of maker ++ rest = c.in-Some.ensures in
    let other : maker ≢ this_device = search rules in
    let version_fits : maker.version < 2 ^ 64 = search rules in
    let profile_fits : maker.profile < 2 ^ 64 = search rules in
    none_after c.args.file.now after rest maker c.in_ok-after.ensures at version_fits profile_fits other

pub returns : goal.returns
returns c =
    let maker = c.in-Some.maker in
    let after = c.in_ok-after.after.now in
    let rest = c.in-Some.rest.now in
    let at : after ≡ label_of maker ++ rest = c.in-Some.ensures in
    let same : maker ≡ this_device = search rules in
    is_after_ours c.args.file.now after rest maker c.in_ok-after.ensures at same
