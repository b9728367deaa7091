use Rattle.std.proofs.Common.{ap, sym, ◌∙◌}
use Rattle.zone_resources.specs.declared.holds.Holds.{Holds}
use Rattle.zns_commands.specs.Fault.{zone_fault_refusal}
use Rattle.device_meaning.specs.Happenings.{faulting, fault_reply}
use Rattle.device_meaning.specs.State.{State, holds_at}
use Rattle.runner.proofs.CommandsLeave.{fault_leaves}
use Rattle.runner.proofs.device_state.DeviceState.fault.Goals as goal
use Rattle.runner.proofs.device_state.DeviceState.fault.Goals.{in-Ok, in-Err}

pub invariant_of-self : goal.invariant_of-self
invariant_of-self g c =
    let d = c.self.inside in
    (fault_leaves d.namespace c.fault.new.self d.slots d.runs c.holds-holds.result c.args.zone c.args.state c.self.invariant
    (c.holds-holds.ensures ∙ ap holds_at (sym c.self.view_is)) c.fault.ensures.state).0

pub returns-clause-reply : goal.returns-clause-reply
returns-clause-reply g c =
    let d = c.self.inside in
    let answer = c.fault.ensures.refusal
    ∙ ap (λ (h : Holds). zone_fault_refusal d.namespace h c.args.zone c.args.state) (c.holds-holds.ensures ∙ ap holds_at (sym c.self.view_is))
    ∙ ap (λ (s : State). zone_fault_refusal s.namespace (holds_at s) c.args.zone c.args.state) c.self.view_is in
    elim c.match-fault.branch [
      | in-Ok w ↦ w.result-is ∙ ap fault_reply (sym w.in-Ok.is ∙ answer)
      | in-Err w ↦ w.result-is ∙ ap fault_reply (sym w.in-Err.is ∙ answer)
    ]

pub returns-clause-state : goal.returns-clause-state
returns-clause-state g c =
    let d = c.self.inside in
    let left = fault_leaves d.namespace c.fault.new.self d.slots d.runs c.holds-holds.result c.args.zone c.args.state c.self.invariant
    (c.holds-holds.ensures ∙ ap holds_at (sym c.self.view_is)) c.fault.ensures.state in
    left.1 ∙ ap (λ (s : State). (faulting s c.args.zone c.args.state).state) c.self.view_is
