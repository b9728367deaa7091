use Rattle.std.proofs.Common.{◌≡◌, [], List, ℕ, Some, refl, rules, subst}
use Rattle.std.proofs.lemmas.Result.{IfErr-weaker, err_from_is_err_and, on_ok_weaker}
use Rattle.device_serve.specs.Rounds.{afresh, on, stops_afresh}
use Rattle.device_serve.specs.steps.UnderWay.{BreaksThere, ServesMore}
use Rattle.device_serve.proofs.Serving.{fold_breaks, fold_round}
use Rattle.device_serve.proofs.Reading.{round_read, stops_in_round, stream_ends}
use Rattle.device_serve.proofs.UnderWay.{whole_read, whole_stops, whole_unanswered}
use Rattle.device_serve.proofs.stream.serve_whole.Goals as goal

pub returns-in_err-serve_piece-clause-stopped : goal.returns-in_err-serve_piece-clause-stopped
returns-in_err-serve_piece-clause-stopped g c =
    let store = g.S.Store in
    let codec = g.C.Codec in
    let bytes = c.args.bytes.now in
    let first = on c.args.codec.now c.args.kept.now.device.value (g.W.Write.contents c.args.out.now) (store.disk c.args.kept.now.events) in
    let then = c.serve_piece.new in
    let done = on then.codec then.kept.device.value (g.W.Write.contents then.out) (store.disk then.kept.events) in
    let none : c.new-answer.result.items ≡ [] = search rules in
    let p = err_from_is_err_and c.from_residual.result c.from_residual.ensures.1 in
    rw (p.1, p.2) (whole_stops codec.does store.told store.settled codec.ends codec.stops bytes first done c.in_err-serve_piece.field-0.0
    c.requires.settled (g.met.C.Codec.stays c.args.codec.now c.args.kept.now.device.value c.requires.ready)
    (subst (λ (x : List ℕ). BreaksThere codec.does store.told store.settled codec.ends codec.stops bytes first x done c.in_err-serve_piece.field-0.0) none
    c.in_err-serve_piece.ensures.stopped))

pub returns-in_err-flush-clause-stopped : goal.returns-in_err-flush-clause-stopped
returns-in_err-flush-clause-stopped g c =
    let store = g.S.Store in
    let codec = g.C.Codec in
    let bytes = c.args.bytes.now in
    let first = on c.args.codec.now c.args.kept.now.device.value (g.W.Write.contents c.args.out.now) (store.disk c.args.kept.now.events) in
    let then = c.serve_piece.new in
    let done = on then.codec then.kept.device.value (g.W.Write.contents then.out) (store.disk then.kept.events) in
    let none : c.new-answer.result.items ≡ [] = search rules in
    let serves = subst (λ (x : List ℕ). ServesMore codec.does store.told store.settled bytes first x done then.answer.items) none
    c.in_ok-serve_piece.ensures.served in
    let p = err_from_is_err_and c.from_residual-in_err-flush.result c.from_residual-in_err-flush.ensures.1 in
    rw (p.1, p.2) (whole_unanswered codec.does store.told store.settled codec.ends codec.stops bytes then.answer.items first then.codec
    then.kept.device.value c.flush.new.kept.device.value (g.W.Write.contents then.out) (g.W.Write.contents c.flush.new.out)
    (store.disk then.kept.events) (store.disk c.flush.new.kept.events) c.in_err-flush.field-0.0 c.requires.settled
    (g.met.C.Codec.stays c.args.codec.now c.args.kept.now.device.value c.requires.ready) serves c.flush.ensures.unchanged
    c.flush.ensures.any_moment c.in_err-flush.ensures.unsent c.in_err-flush.ensures.on_disk)

pub returns-in_err-rest-clause-stopped : goal.returns-in_err-rest-clause-stopped
returns-in_err-rest-clause-stopped g c =
    let store = g.S.Store in
    let codec = g.C.Codec in
    let bytes = c.args.bytes.now in
    let first = on c.args.codec.now c.args.kept.now.device.value (g.W.Write.contents c.args.out.now) (store.disk c.args.kept.now.events) in
    let then = c.serve_piece.new in
    let done = on then.codec then.kept.device.value (g.W.Write.contents then.out) (store.disk then.kept.events) in
    let none : c.new-answer.result.items ≡ [] = search rules in
    let serves = subst (λ (x : List ℕ). ServesMore codec.does store.told store.settled bytes first x done then.answer.items) none
    c.in_ok-serve_piece.ensures.served in
    let flushed = on then.codec c.flush.new.kept.device.value (g.W.Write.contents c.flush.new.out) (store.disk c.flush.new.kept.events) in
    let whole = whole_read codec.does store.told store.settled bytes then.answer.items first then.codec then.kept.device.value
    c.flush.new.kept.device.value (g.W.Write.contents then.out) (g.W.Write.contents c.flush.new.out) (store.disk then.kept.events)
    (store.disk c.flush.new.kept.events) c.requires.settled
    (g.met.C.Codec.stays c.args.codec.now c.args.kept.now.device.value c.requires.ready) serves c.flush.ensures.unchanged c.flush.ensures.any_moment
    c.in_ok-flush.ensures.settled c.in_ok-flush.ensures.written in
    let p = err_from_is_err_and c.from_residual-in_err-rest.result c.from_residual-in_err-rest.ensures.1 in
    rw (p.1, p.2) (stops_in_round codec.does store.told store.settled codec.ends codec.stops (Some bytes) (Some []) first flushed _ c.in_err-rest.field-0.0
    whole (c.in_err-rest.ensures.stopped (Some [])))

pub returns-in_err-fold-clause-stopped : goal.returns-in_err-fold-clause-stopped
returns-in_err-fold-clause-stopped g c =
    let store = g.S.Store in
    let codec = g.C.Codec in
    let bytes = c.args.bytes.now in
    let first = on c.args.codec.now c.args.kept.now.device.value (g.W.Write.contents c.args.out.now) (store.disk c.args.kept.now.events) in
    let then = c.serve_piece.new in
    let done = on then.codec then.kept.device.value (g.W.Write.contents then.out) (store.disk then.kept.events) in
    let none : c.new-answer.result.items ≡ [] = search rules in
    let serves = subst (λ (x : List ℕ). ServesMore codec.does store.told store.settled bytes first x done then.answer.items) none
    c.in_ok-serve_piece.ensures.served in
    let flushed = on then.codec c.flush.new.kept.device.value (g.W.Write.contents c.flush.new.out) (store.disk c.flush.new.kept.events) in
    let whole = whole_read codec.does store.told store.settled bytes then.answer.items first then.codec then.kept.device.value
    c.flush.new.kept.device.value (g.W.Write.contents then.out) (g.W.Write.contents c.flush.new.out) (store.disk then.kept.events)
    (store.disk c.flush.new.kept.events) c.requires.settled
    (g.met.C.Codec.stays c.args.codec.now c.args.kept.now.device.value c.requires.ready) serves c.flush.ensures.unchanged c.flush.ensures.any_moment
    c.in_ok-flush.ensures.settled c.in_ok-flush.ensures.written in
    let rested = on c.rest.new.codec c.rest.new.kept.device.value (g.W.Write.contents c.rest.new.out) (store.disk c.rest.new.kept.events) in
    let between = round_read codec.does store.told store.settled (Some bytes) (Some []) first flushed rested whole c.in_ok-rest.ensures.served in
    let p = err_from_is_err_and c.from_residual-in_err-fold.result c.from_residual-in_err-fold.ensures.1 in
    rw (p.1, p.2) (stops_in_round codec.does store.told store.settled codec.ends codec.stops (Some bytes) (Some []) first rested _ c.in_err-fold.field-0.0
    between
    (fold_breaks (afresh codec.does) store.told store.settled codec.ends (stops_afresh codec.stops) (Some []) c.rest.new.codec
    c.rest.new.kept.device.value c.fold.new.kept.device.value (g.W.Write.contents c.rest.new.out) (store.disk c.rest.new.kept.events)
    (store.disk c.fold.new.kept.events) c.in_err-fold.field-0.0
    (g.met.C.Codec.stays c.rest.new.codec c.rest.new.kept.device.value c.rest.ensures.ready) c.fold.ensures.unchanged c.fold.ensures.any_moment
    c.in_err-fold.ensures.unfolded))

pub returns-clause-served : goal.returns-clause-served
returns-clause-served g c =
    let store = g.S.Store in
    let codec = g.C.Codec in
    let bytes = c.args.bytes.now in
    let first = on c.args.codec.now c.args.kept.now.device.value (g.W.Write.contents c.args.out.now) (store.disk c.args.kept.now.events) in
    let then = c.serve_piece.new in
    let done = on then.codec then.kept.device.value (g.W.Write.contents then.out) (store.disk then.kept.events) in
    let none : c.new-answer.result.items ≡ [] = search rules in
    let serves = subst (λ (x : List ℕ). ServesMore codec.does store.told store.settled bytes first x done then.answer.items) none
    c.in_ok-serve_piece.ensures.served in
    let flushed = on then.codec c.flush.new.kept.device.value (g.W.Write.contents c.flush.new.out) (store.disk c.flush.new.kept.events) in
    let whole = whole_read codec.does store.told store.settled bytes then.answer.items first then.codec then.kept.device.value
    c.flush.new.kept.device.value (g.W.Write.contents then.out) (g.W.Write.contents c.flush.new.out) (store.disk then.kept.events)
    (store.disk c.flush.new.kept.events) c.requires.settled
    (g.met.C.Codec.stays c.args.codec.now c.args.kept.now.device.value c.requires.ready) serves c.flush.ensures.unchanged c.flush.ensures.any_moment
    c.in_ok-flush.ensures.settled c.in_ok-flush.ensures.written in
    let rested = on c.rest.new.codec c.rest.new.kept.device.value (g.W.Write.contents c.rest.new.out) (store.disk c.rest.new.kept.events) in
    let between = round_read codec.does store.told store.settled (Some bytes) (Some []) first flushed rested whole c.in_ok-rest.ensures.served in
    let folded = on c.rest.new.codec c.fold.new.kept.device.value (g.W.Write.contents c.rest.new.out) (store.disk c.fold.new.kept.events) in
    let behind = round_read codec.does store.told store.settled (Some bytes) (Some []) first rested folded between
    (fold_round (afresh codec.does) store.told store.settled c.rest.new.codec c.rest.new.kept.device.value c.fold.new.kept.device.value
    (g.W.Write.contents c.rest.new.out) (store.disk c.rest.new.kept.events) (store.disk c.fold.new.kept.events)
    (g.met.C.Codec.stays c.rest.new.codec c.rest.new.kept.device.value c.rest.ensures.ready) c.fold.ensures.unchanged c.fold.ensures.any_moment
    c.in_ok-fold.ensures.settled) in
    on_ok_weaker c.end.result (λ last. stream_ends codec.does store.told store.settled codec.ends (Some bytes) (Some []) first _ _ behind refl last)
    c.end.ensures.ended

pub returns-clause-stopped : goal.returns-clause-stopped
returns-clause-stopped g c =
    let store = g.S.Store in
    let codec = g.C.Codec in
    let bytes = c.args.bytes.now in
    let first = on c.args.codec.now c.args.kept.now.device.value (g.W.Write.contents c.args.out.now) (store.disk c.args.kept.now.events) in
    let then = c.serve_piece.new in
    let done = on then.codec then.kept.device.value (g.W.Write.contents then.out) (store.disk then.kept.events) in
    let none : c.new-answer.result.items ≡ [] = search rules in
    let serves = subst (λ (x : List ℕ). ServesMore codec.does store.told store.settled bytes first x done then.answer.items) none
    c.in_ok-serve_piece.ensures.served in
    let flushed = on then.codec c.flush.new.kept.device.value (g.W.Write.contents c.flush.new.out) (store.disk c.flush.new.kept.events) in
    let whole = whole_read codec.does store.told store.settled bytes then.answer.items first then.codec then.kept.device.value
    c.flush.new.kept.device.value (g.W.Write.contents then.out) (g.W.Write.contents c.flush.new.out) (store.disk then.kept.events)
    (store.disk c.flush.new.kept.events) c.requires.settled
    (g.met.C.Codec.stays c.args.codec.now c.args.kept.now.device.value c.requires.ready) serves c.flush.ensures.unchanged c.flush.ensures.any_moment
    c.in_ok-flush.ensures.settled c.in_ok-flush.ensures.written in
    let rested = on c.rest.new.codec c.rest.new.kept.device.value (g.W.Write.contents c.rest.new.out) (store.disk c.rest.new.kept.events) in
    let between = round_read codec.does store.told store.settled (Some bytes) (Some []) first flushed rested whole c.in_ok-rest.ensures.served in
    let folded = on c.rest.new.codec c.fold.new.kept.device.value (g.W.Write.contents c.rest.new.out) (store.disk c.fold.new.kept.events) in
    let behind = round_read codec.does store.told store.settled (Some bytes) (Some []) first rested folded between
    (fold_round (afresh codec.does) store.told store.settled c.rest.new.codec c.rest.new.kept.device.value c.fold.new.kept.device.value
    (g.W.Write.contents c.rest.new.out) (store.disk c.rest.new.kept.events) (store.disk c.fold.new.kept.events)
    (g.met.C.Codec.stays c.rest.new.codec c.rest.new.kept.device.value c.rest.ensures.ready) c.fold.ensures.unchanged c.fold.ensures.any_moment
    c.in_ok-fold.ensures.settled) in
    IfErr-weaker c.end.result _ _ (λ why breaks. stops_in_round codec.does store.told store.settled codec.ends codec.stops (Some bytes) (Some []) first _ _
    why behind breaks) (c.end.ensures.stopped (Some []) refl)
