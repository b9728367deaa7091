use Rattle.std.proofs.Common.{ap, sym, ◌∙◌}
use Rattle.device_meaning.specs.State.{free_place}
use Rattle.runner.proofs.Numbers.{free_is}
use Rattle.runner.proofs.device_state.DeviceState.free_place.Goals as goal

pub returns-clause-lowest : goal.returns-clause-lowest
returns-clause-lowest g c =
    let d = c.self.inside in
    c.free_place.ensures.lowest ∙ sym (free_is d.namespace d.slots d.runs) ∙ ap free_place c.self.view_is
