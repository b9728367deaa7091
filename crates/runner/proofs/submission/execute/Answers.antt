use Rattle.std.proofs.Common.{ap, subst, sym, ◌∙◌}
use Rattle.device_meaning.specs.State.{State, holds_at}
use Rattle.runner.specs.steps.Answered.{HasExecuted}
use Rattle.runner.specs.DeviceState.{device_state}
use Rattle.runner.proofs.CommandsLeave.{command_leaves}
use Rattle.runner.proofs.submission.execute.Goals as goal

pub invariant_of-state : goal.invariant_of-state
invariant_of-state g c =
    let d = c.state.inside in
    (command_leaves d.namespace c.execute.new.self d.slots d.runs c.holds-holds.result c.args.command.now c.args.input.now c.execute.new.output c.execute.result
    c.state.invariant (c.holds-holds.ensures ∙ ap holds_at (sym c.state.view_is)) c.execute.ensures.meaning).0

pub returns-clause-executed : goal.returns-clause-executed
returns-clause-executed g c =
    let d = c.state.inside in
    let left = command_leaves d.namespace c.execute.new.self d.slots d.runs c.holds-holds.result c.args.command.now c.args.input.now c.execute.new.output c.execute.result
    c.state.invariant (c.holds-holds.ensures ∙ ap holds_at (sym c.state.view_is)) c.execute.ensures.meaning in
    subst (λ (s : State). HasExecuted c.args.command.now c.args.input.now s (device_state c.execute.new.self d.slots d.runs) c.execute.result c.execute.new.output)
    c.state.view_is left.1
