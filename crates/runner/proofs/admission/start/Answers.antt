use Rattle.std.proofs.Common.{ap, subst, sym, ◌∙◌}
use Rattle.std.proofs.lemmas.Result.{err_from_is_err_and}
use Rattle.image_store.specs.Geometry.{Shape}
use Rattle.device_meaning.specs.State.{State}
use Rattle.runner.specs.steps.Admitting.{IsAdmission}
use Rattle.runner.proofs.Starting.{is_alone, is_running, refuses, starts, still_ready}
use Rattle.runner.proofs.admission.start.Goals as goal

pub returns-in_err-admitted-clause-err : goal.returns-in_err-admitted-clause-err
returns-in_err-admitted-clause-err g c =
    let p = err_from_is_err_and c.from_residual.result c.from_residual.ensures.1 in
    rw (p.1, p.2)
    (refuses c.args.state.now c.args.command.now c.args.input.now c.in_err-admitted.field-0.0 c.in_err-admitted.ensures.why)

pub returns-clause-ok : goal.returns-clause-ok
returns-clause-ok g c =
    let d = c.state.inside in
    rw (c.from.ensures, c.new.ensures)
    (starts d.namespace d.slots d.runs c.args.state.now c.args.command.now c.args.queue c.args.cid c.block-block.result c.in_ok-admitted.admitted c.args.input.now
    c.state.view_is c.in_ok-admitted.ensures.admission.free c.in_ok-admitted.ensures.why)

pub invariant_of-state : goal.invariant_of-state
invariant_of-state g c =
    let d = c.state.inside in
    let block = c.block-block.ensures.value ∙ ap (λ (s : Shape). s.block) c.geometry.ensures.value in
    let admission = subst (λ (s : State). IsAdmission s c.args.command.now c.in_ok-admitted.admitted) (sym c.state.view_is) c.in_ok-admitted.ensures.admission in
    rw (c.from.ensures, c.new.ensures)
    (still_ready d.namespace d.slots d.runs c.in_ok-admitted.admitted.run _ c.state.invariant
    (is_running d.namespace d.slots d.runs c.args.command.now c.args.queue c.args.cid c.block-block.result c.in_ok-admitted.admitted c.state.invariant admission block)
    (is_alone d.namespace d.slots d.runs c.args.command.now c.in_ok-admitted.admitted c.state.invariant admission))
