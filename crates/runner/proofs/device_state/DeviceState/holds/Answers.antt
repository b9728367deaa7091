use Rattle.std.proofs.Common.{ap, ◌∙◌}
use Rattle.device_meaning.specs.State.{holds_at}
use Rattle.runner.proofs.Holding.{holds_are}
use Rattle.runner.proofs.device_state.DeviceState.holds.Goals as goal

pub returns : goal.returns
returns g c =
    let d = c.self.inside in
    c.holds.ensures ∙ holds_are d.namespace d.slots d.runs c.self.invariant ∙ ap holds_at c.self.view_is
