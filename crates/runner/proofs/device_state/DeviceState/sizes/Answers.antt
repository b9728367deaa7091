use Rattle.std.proofs.Common.{◌<◌, length, Some, ap, sym, ◌∙◌, arith}
use Rattle.device_meaning.specs.State.{State}
use Rattle.runner.specs.steps.Admitting.{sizes_at}
use Rattle.runner.proofs.Admissions.{sizes_are, sizes_known}
use Rattle.runner.proofs.MayBeThere.{read_at}
use Rattle.runner.proofs.device_state.DeviceState.sizes.Goals as goal

pub returns-in-Some : goal.returns-in-Some
returns-in-Some g c =
    let d = c.self.inside in
    let inside : c.index.result < length d.slots = omega arith in
    let at = read_at d.slots c.index.result c.args.slot c.index-self-index.result c.in-Some.loaded c.index.ensures.value inside c.in-Some.is in
    let sizes = rw c.verified.ensures at c.sizes.ensures in
    ap Some sizes ∙ sym (sizes_are d.namespace d.slots d.runs c.args.slot c.self.invariant ∙ ap sizes_known at) ∙ ap (λ (s : State). sizes_at s c.args.slot) c.self.view_is
