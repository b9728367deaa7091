use Rattle.std.proofs.Common.{ℕ, List, drop, take, take-append-drop, subst, sym}
use Rattle.std.proofs.lemmas.Result.{err_from_is_err_and}
use Rattle.device_serve.specs.Rounds.{on}
use Rattle.device_serve.specs.steps.UnderWay.{ServesMore}
use Rattle.device_serve.proofs.UnderWay.{breaks_unanswered, serves_and_rests, serves_more, stops_answered_there, stops_unanswered_there}
use Rattle.device_serve.proofs.round.serve_batch.Goals as goal

-- ---- a piece, or its front, was taken

pub returns-then-count-piece-clause-served : goal.returns-then-count-piece-clause-served
returns-then-count-piece-clause-served g c =
    let store = g.S.Store in
    serves_more g.C.Codec.does store.told store.settled c.joins.ensures.done (take c.in-Ok.count c.args.piece.now) c.args.answer.now.items
    c.take.new.answer.items c.args.codec.now c.take.new.self c.args.kept.now.device.value c.take.new.kept.device.value
    (g.W.Write.contents c.args.out.now) (store.disk c.args.kept.now.events) (store.disk c.take.new.kept.events) c.in-Ok.ensures.done c.take.ensures.same

pub returns-in_ok-flush-in-Ok-clause-served : goal.returns-in_ok-flush-in-Ok-clause-served
returns-in_ok-flush-in-Ok-clause-served g c =
    let store = g.S.Store in
    let codec = g.C.Codec in
    let old = on c.args.codec.now c.args.kept.now.device.value (g.W.Write.contents c.args.out.now) (store.disk c.args.kept.now.events) in
    let new = on c.take.new.self c.flush.new.kept.device.value (g.W.Write.contents c.flush.new.out) (store.disk c.flush.new.kept.events) in
    let bytes = take c.in-Ok.count c.args.piece.now in
    let s = c.take.new.kept.device.value in
    let d = store.disk c.take.new.kept.events in
    subst (λ (x : List ℕ). ServesMore codec.does store.told store.settled bytes old c.args.answer.now.items new x) (sym c.in_ok-flush-in-Ok.ensures.empty)
    (serves_and_rests codec.does store.told store.settled bytes c.args.answer.now.items c.take.new.answer.items old c.take.new.self s
    c.flush.new.kept.device.value (g.W.Write.contents c.args.out.now) (g.W.Write.contents c.flush.new.out) d (store.disk c.flush.new.kept.events)
    (serves_more codec.does store.told store.settled c.joins.ensures.done bytes c.args.answer.now.items c.take.new.answer.items c.args.codec.now
    c.take.new.self c.args.kept.now.device.value s (g.W.Write.contents c.args.out.now) (store.disk c.args.kept.now.events) d c.in-Ok.ensures.done
    c.take.ensures.same)
    c.flush.ensures.unchanged c.flush.ensures.any_moment c.in_ok-flush-in-Ok.ensures.settled c.in_ok-flush-in-Ok.ensures.written
    (g.met.C.Codec.stays c.take.new.self c.flush.new.kept.device.value c.take.ensures.ready))

pub returns-in_err-flush-in-Ok-clause-stopped : goal.returns-in_err-flush-in-Ok-clause-stopped
returns-in_err-flush-in-Ok-clause-stopped g c =
    let store = g.S.Store in
    let codec = g.C.Codec in
    let old = on c.args.codec.now c.args.kept.now.device.value (g.W.Write.contents c.args.out.now) (store.disk c.args.kept.now.events) in
    let bytes = take c.in-Ok.count c.args.piece.now in
    let s = c.take.new.kept.device.value in
    let d = store.disk c.take.new.kept.events in
    let p = err_from_is_err_and c.from_residual.result c.from_residual.ensures.1 in
    rw (p.1, p.2) (breaks_unanswered codec.does store.told store.settled codec.ends codec.stops bytes (drop c.in-Ok.count c.args.piece.now) c.args.piece.now
    c.args.answer.now.items c.take.new.answer.items old c.take.new.self s c.flush.new.kept.device.value (g.W.Write.contents c.args.out.now)
    (g.W.Write.contents c.flush.new.out) d (store.disk c.flush.new.kept.events) c.in_err-flush-in-Ok.field-0.0
    (serves_more codec.does store.told store.settled c.joins.ensures.done bytes c.args.answer.now.items c.take.new.answer.items c.args.codec.now
    c.take.new.self c.args.kept.now.device.value s (g.W.Write.contents c.args.out.now) (store.disk c.args.kept.now.events) d c.in-Ok.ensures.done
    c.take.ensures.same)
    c.flush.ensures.unchanged c.flush.ensures.any_moment c.in_err-flush-in-Ok.ensures.unsent c.in_err-flush-in-Ok.ensures.on_disk
    (sym (take-append-drop c.in-Ok.count c.args.piece.now)))

-- ---- the codec stops

pub returns-in_ok-flush-in-Err-clause-stopped : goal.returns-in_ok-flush-in-Err-clause-stopped
returns-in_ok-flush-in-Err-clause-stopped g c =
    let store = g.S.Store in
    let codec = g.C.Codec in
    stops_answered_there codec.does store.told store.settled codec.ends codec.stops c.joins.ensures.stopped c.args.piece.now c.args.answer.now.items
    c.take.new.answer.items c.args.codec.now c.take.new.self c.args.kept.now.device.value c.take.new.kept.device.value c.flush-in-Err.new.kept.device.value
    (g.W.Write.contents c.args.out.now) (g.W.Write.contents c.flush-in-Err.new.out) (store.disk c.args.kept.now.events) (store.disk c.take.new.kept.events)
    (store.disk c.flush-in-Err.new.kept.events) c.in-Err.fault c.in-Err.ensures.stopped c.take.ensures.same c.flush-in-Err.ensures.unchanged
    c.flush-in-Err.ensures.any_moment c.in_ok-flush-in-Err.ensures.settled c.in_ok-flush-in-Err.ensures.written

pub returns-in_err-flush-in-Err-clause-stopped : goal.returns-in_err-flush-in-Err-clause-stopped
returns-in_err-flush-in-Err-clause-stopped g c =
    let store = g.S.Store in
    let codec = g.C.Codec in
    let p = err_from_is_err_and c.from_residual-in_err-flush-in-Err.result c.from_residual-in_err-flush-in-Err.ensures.1 in
    rw (p.1, p.2)
    (stops_unanswered_there codec.does store.told store.settled codec.ends codec.stops c.joins.ensures.stopped c.args.piece.now c.args.answer.now.items
    c.take.new.answer.items c.args.codec.now c.take.new.self c.args.kept.now.device.value c.take.new.kept.device.value c.flush-in-Err.new.kept.device.value
    (g.W.Write.contents c.args.out.now) (g.W.Write.contents c.flush-in-Err.new.out) (store.disk c.args.kept.now.events) (store.disk c.take.new.kept.events)
    (store.disk c.flush-in-Err.new.kept.events) c.in-Err.fault c.in_err-flush-in-Err.field-0.0 c.in-Err.ensures.stopped c.take.ensures.same
    c.flush-in-Err.ensures.unchanged c.flush-in-Err.ensures.any_moment c.in_err-flush-in-Err.ensures.unsent c.in_err-flush-in-Err.ensures.on_disk)
