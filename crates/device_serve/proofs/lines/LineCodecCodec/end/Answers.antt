use Rattle.std.proofs.Common.{ℕ, List, subst}
use Rattle.std.proofs.lemmas.Result.{err_from_is_err_and}
use Rattle.device_serve.specs.LineStream.{FailsIn}
use Rattle.device_serve.proofs.LineCodecs.{end_fails}
use Rattle.device_serve.proofs.lines.LineCodecCodec.end.Goals as goal

pub returns-in_err-serve_unended-clause-stopped : goal.returns-in_err-serve_unended-clause-stopped
returns-in_err-serve_unended-clause-stopped g c left end =
    let p = err_from_is_err_and c.from_residual.result c.from_residual.ensures.1 in
    let old = c.args.self.now in
    let new = c.serve_unended.new in
    rw (p.1, p.2)
    (end_fails old new.self c.args.kept.now.device.value new.kept.device.value new.answer.items left c.in_err-serve_unended.field-0.0
    (subst (λ (first : List ℕ). FailsIn old.doer.drains old.unended.items old.count c.in_err-serve_unended.field-0.0 c.args.kept.now.device.value
    new.kept.device.value first new.answer.items) c.requires.empty c.in_err-serve_unended.ensures.failed))
