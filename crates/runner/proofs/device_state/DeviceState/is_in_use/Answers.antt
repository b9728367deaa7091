use Rattle.std.proofs.Common.{ap, sym, ◌∙◌}
use Rattle.device_meaning.specs.State.{State, in_use}
use Rattle.runner.proofs.Loads.{used_is}
use Rattle.runner.proofs.device_state.DeviceState.is_in_use.Goals as goal

pub returns : goal.returns
returns g c =
    let d = c.self.inside in
    c.is_in_use.ensures ∙ sym (used_is d.namespace d.slots d.runs c.args.slot) ∙ ap (λ (s : State). in_use s c.args.slot) c.self.view_is
