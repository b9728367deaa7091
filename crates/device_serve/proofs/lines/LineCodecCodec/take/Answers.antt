use Rattle.std.proofs.Common.{◌++◌, refl}
use Rattle.std.proofs.lemmas.Result.{err_from_is_err_and}
use Rattle.device_serve.proofs.LineCodecs.{piece_done, piece_unheld, stops_in}
use Rattle.device_serve.proofs.lines.LineCodecCodec.take.Goals as goal

pub returns-in_err-count-clause-stopped : goal.returns-in_err-count-clause-stopped
returns-in_err-count-clause-stopped g c left =
    let p = err_from_is_err_and c.from_residual.result c.from_residual.ensures.1 in
    let old = c.args.self.now in
    rw (p.1, p.2)
    (stops_in old.doer.drains (old.unended.items ++ c.args.piece.now) old.count left c.in_err-count.field-0.0 c.args.kept.now.device.value
    c.take_ended.new.kept.device.value c.args.answer.now.items c.take_ended.new.answer.items c.in_err-count.ensures.failed)

pub returns-in_err-extend_from_slice-clause-stopped : goal.returns-in_err-extend_from_slice-clause-stopped
returns-in_err-extend_from_slice-clause-stopped g c left =
    let p = err_from_is_err_and c.from_residual-in_err-extend_from_slice.result c.from_residual-in_err-extend_from_slice.ensures.1 in
    let new = c.take_ended.new in
    rw (p.1, p.2)
    (piece_unheld c.args.self.now new.self c.args.kept.now.device.value new.kept.device.value c.args.piece.now c.in_ok-count.count c.args.answer.now.items new.answer.items
    c.in_ok-count.ensures.done new.self left)

pub returns-clause-done : goal.returns-clause-done
returns-clause-done g c =
    let new = c.take_ended.new in
    piece_done c.args.self.now new.self c.args.kept.now.device.value new.kept.device.value c.args.piece.now c.in_ok-count.count c.args.answer.now.items new.answer.items
    c.in_ok-count.ensures.done (record { unended = c.extend_from_slice.new.self; count = new.self.count; doer = new.self.doer })
    c.in_ok-extend_from_slice.ensures.items refl refl
