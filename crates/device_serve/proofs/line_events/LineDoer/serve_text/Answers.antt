use Rattle.std.proofs.Common.{Bool, refl, subst, arith}
use Rattle.std.proofs.lemmas.Result.{err_from_is_err_and}
use Rattle.std.specs.Str.Lines.{lines}
use Rattle.device_serve.specs.LineSteps.{FailsAt, ServesLine}
use Rattle.device_serve.proofs.LineTexts.{line_fails, line_served, none_served}
use Rattle.device_serve.proofs.line_events.LineDoer.serve_text.Goals as goal

pub loop-rest-init : goal.loop-rest-init
loop-rest-init g c = record {
  served = none_served c.args.self.now.drains (lines c.args.text.now) c.args.before c.args.kept.now.device.value c.args.answer.now.items (omega arith);
  room = c.requires.room;
  drains = refl;
  kept = c.requires.kept;
  same = refl;
}

pub returns-in_err-serve_line-clause-failed : goal.returns-in_err-serve_line-clause-failed
returns-in_err-serve_line-clause-failed g c =
    let p = err_from_is_err_and c.from_residual.result c.from_residual.ensures.1 in
    let old = c.loop-rest.kept.device.value in
    let new = c.serve_line.new.kept.device.value in
    rw (p.1, p.2)
    (line_fails c.args.self.now.drains (lines c.args.text.now) (lines c.loop-rest.rest.now) (lines c.first_line.result.1.now) c.first_line.result.0.now
    c.args.before c.loop-rest.count c.saturating_add-number.result c.args.kept.now.device.value old new
    c.args.answer.now.items c.loop-rest.answer.items c.serve_line.new.answer.items
    c.loop-rest.invariant.served c.first_line.ensures.lines c.saturating_add-number.ensures c.args.text.now c.in_err-serve_line.field-0.0 refl
    (subst (λ (drains : Bool). FailsAt drains c.first_line.result.0.now c.saturating_add-number.result c.in_err-serve_line.field-0.0 old new
    c.loop-rest.answer.items c.serve_line.new.answer.items) c.loop-rest.invariant.drains c.in_err-serve_line.ensures.failed))

pub loop-rest-preserved : goal.loop-rest-preserved
loop-rest-preserved g c =
    let old = c.loop-rest.kept.device.value in
    let new = c.serve_line.new.kept.device.value in
    record {
      served =
          line_served c.args.self.now.drains (lines c.args.text.now) (lines c.loop-rest.rest.now) (lines c.first_line.result.1.now) c.first_line.result.0.now
          c.args.before c.loop-rest.count c.saturating_add-number.result c.args.kept.now.device.value old new
          c.args.answer.now.items c.loop-rest.answer.items c.serve_line.new.answer.items
          c.loop-rest.invariant.served c.first_line.ensures.lines c.saturating_add-number.ensures
          (subst (λ (drains : Bool). ServesLine drains c.first_line.result.0.now old new c.loop-rest.answer.items c.serve_line.new.answer.items)
          c.loop-rest.invariant.drains c.in_ok-serve_line.ensures.done);
      room = c.in_ok-serve_line.ensures.room;
      drains = cc (c.in_ok-serve_line.ensures.drains, c.loop-rest.invariant.drains);
      kept = c.in_ok-serve_line.ensures.kept;
      same = cc (c.in_ok-serve_line.ensures.same, c.loop-rest.invariant.same);
    }
