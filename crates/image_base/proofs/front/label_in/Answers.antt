use Rattle.std.proofs.Common.{rules, ◌≡◌, ◌∷◌}
use Rattle.image_base.specs.Base.{BeginsNoLabel}
use Rattle.image_base.proofs.Labels.{short_by, shorter, too_short}
use Rattle.image_base.proofs.front.label_in.Goals as goal

pub returns-in_err-version : goal.returns-in_err-version
returns-in_err-version c =
    let bytes = c.args.bytes.now in
    let numbers = c.in_ok-first.numbers.now in
    let parts : bytes ≡ c.in_ok-first.first.now ∷ numbers = c.in_ok-first.ensures.cases.0 in
    let none : BeginsNoLabel bytes = too_short bytes numbers c.in_ok-first.first.now parts (shorter numbers c.in_err-version.ensures) in
    search rules

pub returns-in_err-profile : goal.returns-in_err-profile
returns-in_err-profile c =
    let bytes = c.args.bytes.now in
    let numbers = c.in_ok-first.numbers.now in
    let parts : bytes ≡ c.in_ok-first.first.now ∷ numbers = c.in_ok-first.ensures.cases.0 in
    let none : BeginsNoLabel bytes =
    too_short bytes numbers c.in_ok-first.first.now parts
    (short_by c.in_ok-version.version numbers c.in_ok-version.more.now c.in_ok-version.ensures c.in_err-profile.ensures) in
    search rules
