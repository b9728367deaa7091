use Rattle.std.proofs.Common.{subst, sym}
use Rattle.verifier.specs.Verified.{program_of, sizes_of}
use Rattle.device_meaning.specs.State.{State}
use Rattle.runner.specs.steps.Loading.{IsLoadable}
use Rattle.runner.proofs.Loads.{loaded_ready, loads}
use Rattle.runner.proofs.load.load.Goals as goal

pub returns-in-Ok-clause-loaded : goal.returns-in-Ok-clause-loaded
returns-in-Ok-clause-loaded g c =
    let d = c.state.inside in
    let p = c.in-Ok.loaded in
    let loadable =
    subst (λ (s : State). IsLoadable g.D.Domain.operations c.args.command.now c.args.input.now s (program_of p.prepared) (sizes_of p.prepared)) (sym c.state.view_is) c.in-Ok.ensures.ok in
    rw (c.index.ensures.value, c.success.ensures, ← c.state.view_is)
    (loads d.namespace d.slots d.runs c.args.command.now c.args.input.now p c.state.invariant loadable c.in-Ok.ensures.blank)

pub invariant_of-state : goal.invariant_of-state
invariant_of-state g c =
    let d = c.state.inside in
    let p = c.in-Ok.loaded in
    let loadable =
    subst (λ (s : State). IsLoadable g.D.Domain.operations c.args.command.now c.args.input.now s (program_of p.prepared) (sizes_of p.prepared)) (sym c.state.view_is) c.in-Ok.ensures.ok in
    rw c.index.ensures.value
    (loaded_ready d.namespace d.slots d.runs c.args.command.now c.args.input.now p c.state.invariant loadable)
