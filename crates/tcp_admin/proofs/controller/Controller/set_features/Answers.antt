use Rattle.std.proofs.Common.{ℕ, Result, ap, ◌∙◌}
use Rattle.common_definitions.specs.Bytes.{field}
use Rattle.zone_state.specs.declared.status.Status.{Status}
use Rattle.tcp_admin.specs.declared.features.Feature.{Feature}
use Rattle.tcp_admin.specs.Features.{feature_set, set_by}
use Rattle.tcp_admin.proofs.controller.Controller.set_features.Goals as goal

pub returns-clause-state : goal.returns-clause-state
returns-clause-state c =
    c.set_feature.ensures
    ∙ ap (λ (value : ℕ). feature_set c.in_ok-feature.feature value c.args.self.now) c.u32_at.ensures
    ∙ ap (λ (asked : Result Feature Status). (set_by asked (field c.args.entry.now 44 4) c.args.self.now).0) c.in_ok-feature.ensures
