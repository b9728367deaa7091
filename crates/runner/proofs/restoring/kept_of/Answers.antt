use Rattle.std.proofs.Common.{List, Option, map, sym, subst}
use Rattle.device_meaning.specs.Judging.{judge_by}
use Rattle.device_meaning.specs.Reached.{IsReached}
use Rattle.device_meaning.specs.State.{State}
use Rattle.device_meaning.specs.View.{Active}
use Rattle.kept_device.specs.Kept.{SavedProgram, place_told, slot_told}
use Rattle.runner.specs.DeviceState.{device_state}
use Rattle.runner.specs.Keeping.{saved_slot}
use Rattle.runner.specs.Restored.{IsRestoredBy}
use Rattle.runner.proofs.KeptDevices.{kept_tells}
use Rattle.runner.proofs.restoring.kept_of.Goals as goal

pub returns : goal.returns
returns g c =
    let d = c.state.inside in
    let s = device_state d.namespace d.slots d.runs in
    let tells =
    kept_tells d.namespace d.slots d.runs c.state.invariant c.domains_judge_soundly.ensures (subst (IsReached (judge_by g.D.Domain.operations)) (sym c.state.view_is) c.requires.reached)
    c.kept_slots.ensures.number c.kept_runs.ensures.number c.in_ok-programs.ensures.again c.in_ok-runs.ensures.are in
    subst (λ (t : State). IsRestoredBy (judge_by g.D.Domain.operations) t.namespace (map slot_told c.in_ok-programs.programs.items) (map place_told c.in_ok-runs.runs.items) t) c.state.view_is
    (subst (λ (programs : List (Option SavedProgram)). IsRestoredBy (judge_by g.D.Domain.operations) d.namespace programs (map place_told c.in_ok-runs.runs.items) s) (sym c.in_ok-programs.ensures.told)
    (subst (λ (runs : List (Option Active)). IsRestoredBy (judge_by g.D.Domain.operations) d.namespace (map saved_slot d.slots) runs s) (sym c.in_ok-runs.ensures.told) tells))
