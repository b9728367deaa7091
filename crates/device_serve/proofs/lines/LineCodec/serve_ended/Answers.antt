use Rattle.std.proofs.Common.{◌++◌}
use Rattle.std.proofs.lemmas.Result.{err_from_is_err_and}
use Rattle.device_serve.specs.LineLaws.{nothing_served}
use Rattle.device_serve.specs.LineStream.{BeforeLine}
use Rattle.device_serve.proofs.lines.LineCodec.serve_ended.Goals as goal

pub returns-in_err-extend_from_slice-clause-failed : goal.returns-in_err-extend_from_slice-clause-failed
returns-in_err-extend_from_slice-clause-failed g c =
    let p = err_from_is_err_and c.from_residual-in_err-extend_from_slice.result c.from_residual-in_err-extend_from_slice.ensures.1 in
    rw (p.1, p.2)
    (BeforeLine 0
    (nothing_served c.args.self.now.doer.drains (c.args.self.now.unended.items ++ c.args.text.now) c.args.kept.now.device.value c.args.answer.now.items))
