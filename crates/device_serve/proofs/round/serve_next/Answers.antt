use Rattle.std.proofs.Common.{take}
use Rattle.std.proofs.lemmas.Result.{err_from_is_err_and}
use Rattle.device_serve.specs.Rounds.{afresh, stops_afresh}
use Rattle.device_serve.proofs.Serving.{stops_at_rest}
use Rattle.device_serve.proofs.UnderWay.{reads_piece, stops_in_it, unread_answered, unread_unanswered}
use Rattle.device_serve.proofs.round.serve_next.Goals as goal

pub returns-in_ok-serve_piece-in-Ok-clause-served : goal.returns-in_ok-serve_piece-in-Ok-clause-served
returns-in_ok-serve_piece-in-Ok-clause-served g c =
    let store = g.S.Store in
    reads_piece g.C.Codec.does store.told store.settled (g.R.Read.remaining c.args.reader.now) (g.R.Read.remaining c.read.new.reader)
    (take c.in-Ok.count c.read.new.buffer) c.args.answer.now.items c.serve_piece.new.answer.items _ _ c.in-Ok.ensures.bytes
    c.in_ok-serve_piece-in-Ok.ensures.served

pub returns-in_err-serve_piece-in-Ok-clause-stopped : goal.returns-in_err-serve_piece-in-Ok-clause-stopped
returns-in_err-serve_piece-in-Ok-clause-stopped g c =
    let store = g.S.Store in
    let codec = g.C.Codec in
    let p = err_from_is_err_and c.from_residual.result c.from_residual.ensures.1 in
    rw (p.1, p.2) (stops_in_it codec.does store.told store.settled codec.ends codec.stops (g.R.Read.remaining c.args.reader.now)
    (g.R.Read.remaining c.read.new.reader) (take c.in-Ok.count c.read.new.buffer) c.args.answer.now.items _ _ c.in_err-serve_piece-in-Ok.field-0.0
    c.in-Ok.ensures.bytes c.in_err-serve_piece-in-Ok.ensures.stopped)

pub returns-in_ok-flush-in-Err-clause-stopped : goal.returns-in_ok-flush-in-Err-clause-stopped
returns-in_ok-flush-in-Err-clause-stopped g c =
    let store = g.S.Store in
    let codec = g.C.Codec in
    let s = c.args.kept.now.device.value in
    let t = c.flush.new.kept.device.value in
    let v = g.W.Write.contents c.flush.new.out in
    let e = store.disk c.flush.new.kept.events in
    rw c.in-Err.ensures.unread (unread_answered codec.does store.told store.settled codec.ends codec.stops (g.R.Read.remaining c.args.reader.now)
    (g.R.Read.remaining c.read.new.reader) c.args.answer.now.items c.args.codec.now s t (g.W.Write.contents c.args.out.now) v
    (store.disk c.args.kept.now.events) e _ c.in-Err.ensures.kept c.flush.ensures.unchanged c.flush.ensures.any_moment
    c.in_ok-flush-in-Err.ensures.settled c.in_ok-flush-in-Err.ensures.written
    (λ left. stops_at_rest (afresh codec.does) store.told store.settled codec.ends (stops_afresh codec.stops) left c.args.codec.now t v e _
    (g.met.C.Codec.unread c.args.codec.now t left c.requires.ready)
    (λ file may. c.rests.ensures.stands t e file c.in_ok-flush-in-Err.ensures.settled may) c.in_ok-flush-in-Err.ensures.settled))

pub returns-in_err-flush-in-Err-clause-stopped : goal.returns-in_err-flush-in-Err-clause-stopped
returns-in_err-flush-in-Err-clause-stopped g c =
    let store = g.S.Store in
    let codec = g.C.Codec in
    let p = err_from_is_err_and c.from_residual-in_err-flush-in-Err.result c.from_residual-in_err-flush-in-Err.ensures.1 in
    rw (p.1, p.2) (unread_unanswered codec.does store.told store.settled codec.ends codec.stops (g.R.Read.remaining c.args.reader.now)
    (g.R.Read.remaining c.read.new.reader) c.args.answer.now.items c.args.codec.now c.args.kept.now.device.value c.flush.new.kept.device.value
    (g.W.Write.contents c.args.out.now) (g.W.Write.contents c.flush.new.out) (store.disk c.args.kept.now.events) (store.disk c.flush.new.kept.events)
    c.in_err-flush-in-Err.field-0.0 c.in-Err.ensures.kept c.flush.ensures.unchanged c.flush.ensures.any_moment c.in_err-flush-in-Err.ensures.unsent
    c.in_err-flush-in-Err.ensures.on_disk)
