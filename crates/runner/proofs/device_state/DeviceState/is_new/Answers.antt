use Rattle.std.proofs.Common.{rules, ◌≡◌, false}
use Rattle.std.specs.Prelude.{is_some}
use Rattle.std.specs.List.{list_any}
use Rattle.runner.proofs.NewDevices.{new_if_idle, old_if_active, old_if_loaded}
use Rattle.runner.proofs.device_state.DeviceState.is_new.Goals as goal

pub returns-then-not-any_loaded-clause-new : goal.returns-then-not-any_loaded-clause-new
returns-then-not-any_loaded-clause-new g c =
    let d = c.self.inside in
    let none : list_any is_some d.slots ≡ false = search rules in
    new_if_idle d.namespace d.slots d.runs c.args.self.now c.self.view_is c.any_loaded.ensures.slots c.any_active.ensures.places none c.any_active.result c.any_active.ensures.value

pub returns-then-not-any_loaded-clause-other : goal.returns-then-not-any_loaded-clause-other
returns-then-not-any_loaded-clause-other g c =
    let d = c.self.inside in
    old_if_active d.namespace d.slots d.runs c.args.self.now c.self.view_is c.any_active.result c.any_active.ensures.value

pub returns-else-not-any_loaded-clause-other : goal.returns-else-not-any_loaded-clause-other
returns-else-not-any_loaded-clause-other g c =
    let d = c.self.inside in
    old_if_loaded d.namespace d.slots d.runs c.args.self.now c.self.view_is c.any_loaded.result c.any_loaded.ensures.value
