use Rattle.std.proofs.Common.{rules, ◌≡◌, ◌<◌, ◌-◌, ◌^◌, ◌∷◌, ◌++◌, length}
use Rattle.durable_machine.specs.Events.{number_bytes}
use Rattle.image_base.proofs.Needing.{needs_told}
use Rattle.image_base.proofs.length.event_length.Goals as goal

pub returns-in-Some-number_in : goal.returns-in-Some-number_in
returns-in-Some-number_in c =
    let bytes = c.args.bytes.now in
    let behind = c.in-Some.behind.now in
    let number = c.in-Some-number_in.length in
    let first : bytes ≡ c.in-Some.field-0-0.now ∷ behind = search rules in
    let parts : behind ≡ number_bytes number ++ c.in-Some-number_in.field-0-1.now = c.in-Some-number_in.ensures in
    let fits : number < 2 ^ 64 = search rules in
    let short : length bytes < 2 ^ 64 - 1 = search rules in
    needs_told c.in-Some.field-0-0.now number c.saturating_add.result bytes behind c.in-Some-number_in.field-0-1.now fits first parts short
    c.saturating_add.ensures
