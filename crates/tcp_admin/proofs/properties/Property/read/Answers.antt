use Rattle.std.proofs.Common.{ℕ, ◌%◌, Option, slice_index, ap, ◌∙◌}
use Rattle.std.specs.Option.{ok_or}
use Rattle.zone_state.specs.declared.status.TheConstants.Status.{INVALID_FIELD_IN_COMMAND}
use Rattle.tcp_admin.specs.declared.properties.Property.{Property}
use Rattle.tcp_admin.specs.Properties.{property_at}
use Rattle.tcp_admin.proofs.properties.Property.read.Goals as goal

pub returns : goal.returns
returns c =
    c.ok_or.ensures.value
    ∙ ap (λ (property : Option Property). ok_or property INVALID_FIELD_IN_COMMAND)
    (c.at.ensures ∙ ap (λ (offset : ℕ). property_at offset (slice_index c.args.entry.now 40 % 8)) c.u32_at.ensures)
