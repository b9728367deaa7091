use Rattle.std.proofs.Common.{◌≡◌, arith, rules}
use Rattle.std.proofs.lemmas.Result.{IfErr-weaker, err_from_is_err_and, on_ok_weaker}
use Rattle.device_serve.specs.Rounds.{afresh, on, stops_afresh}
use Rattle.device_serve.specs.declared.fault.ServeFault.TheVariants as fault
use Rattle.device_serve.proofs.Serving.{fold_breaks, fold_round, stops_at_rest}
use Rattle.device_serve.proofs.Reading.{none_read, read_on, round_read, stops_in_round, stops_reading, stream_ends}
use Rattle.device_serve.proofs.stream.serve_pieces.Goals as goal

pub loop-init : goal.loop-init
loop-init g c =
    let store = g.S.Store in record {
      so_far = none_read g.C.Codec.does store.told store.settled (g.R.Read.remaining c.args.reader.now) _;
      empty = search rules;
      none = c.requires.none;
      settled = c.requires.settled;
      ready = c.requires.ready;
      faults = omega arith;
    }

pub loop-preserved : goal.loop-preserved
loop-preserved g c =
    let store = g.S.Store in
    let does = g.C.Codec.does in
    let unread = g.R.Read.remaining c.args.reader.now in
    let left = g.R.Read.remaining c.loop.reader in
    let less = g.R.Read.remaining c.serve_round.new.reader in
    let first = on c.args.codec.now c.args.kept.now.device.value (g.W.Write.contents c.args.out.now) (store.disk c.args.kept.now.events) in
    let now = on c.loop.codec c.loop.kept.device.value (g.W.Write.contents c.loop.out) (store.disk c.loop.kept.events) in
    let served = on c.serve_round.new.codec c.serve_round.new.kept.device.value (g.W.Write.contents c.serve_round.new.out)
    (store.disk c.serve_round.new.kept.events) in
    let rested = on c.rest.new.codec c.rest.new.kept.device.value (g.W.Write.contents c.rest.new.out) (store.disk c.rest.new.kept.events) in
    let folded = on c.rest.new.codec c.fold.new.kept.device.value (g.W.Write.contents c.rest.new.out) (store.disk c.fold.new.kept.events) in
    let read = read_on does store.told store.settled unread left less first now served c.loop.invariant.so_far c.in_ok-count.ensures.served in
    let between = round_read does store.told store.settled unread less first served rested read c.in_ok-rest.ensures.served in
    record {
      so_far = round_read does store.told store.settled unread less first rested folded between
          (fold_round (afresh does) store.told store.settled c.rest.new.codec c.rest.new.kept.device.value c.fold.new.kept.device.value
          (g.W.Write.contents c.rest.new.out) (store.disk c.rest.new.kept.events) (store.disk c.fold.new.kept.events)
          (g.met.C.Codec.stays c.rest.new.codec c.rest.new.kept.device.value c.rest.ensures.ready) c.fold.ensures.unchanged c.fold.ensures.any_moment
          c.in_ok-fold.ensures.settled);
      empty = c.in_ok-rest.ensures.empty;
      none = c.fold.ensures.none;
      settled = c.in_ok-fold.ensures.settled;
      ready = c.rest.ensures.ready;
      faults = omega (arith, c.loop.invariant.faults, c.serve_round.ensures.blames.later, c.rest.ensures.blames.later, c.fold.ensures.blames.later);
    }

pub returns-then-count-eq0-clause-served : goal.returns-then-count-eq0-clause-served
returns-then-count-eq0-clause-served g c =
    let store = g.S.Store in
    let codec = g.C.Codec in
    let unread = g.R.Read.remaining c.args.reader.now in
    let left = g.R.Read.remaining c.loop.reader in
    let less = g.R.Read.remaining c.serve_round.new.reader in
    let first = on c.args.codec.now c.args.kept.now.device.value (g.W.Write.contents c.args.out.now) (store.disk c.args.kept.now.events) in
    let none : c.in_ok-count.count ≡ 0 = search rules in
    on_ok_weaker c.end.result (λ last. stream_ends codec.does store.told store.settled codec.ends unread less first _ _
    (read_on codec.does store.told store.settled unread left less first _ _ c.loop.invariant.so_far c.in_ok-count.ensures.served)
    (c.in_ok-count.ensures.end none) last) c.end.ensures.ended

pub returns-then-count-eq0-clause-stopped : goal.returns-then-count-eq0-clause-stopped
returns-then-count-eq0-clause-stopped g c =
    let store = g.S.Store in
    let codec = g.C.Codec in
    let unread = g.R.Read.remaining c.args.reader.now in
    let left = g.R.Read.remaining c.loop.reader in
    let less = g.R.Read.remaining c.serve_round.new.reader in
    let first = on c.args.codec.now c.args.kept.now.device.value (g.W.Write.contents c.args.out.now) (store.disk c.args.kept.now.events) in
    let none : c.in_ok-count.count ≡ 0 = search rules in
    IfErr-weaker c.end.result _ _ (λ why breaks. stops_in_round codec.does store.told store.settled codec.ends codec.stops unread less first _ _ why
    (read_on codec.does store.told store.settled unread left less first _ _ c.loop.invariant.so_far c.in_ok-count.ensures.served) breaks)
    (c.end.ensures.stopped less (c.in_ok-count.ensures.end none))

pub returns-in_err-count-clause-stopped : goal.returns-in_err-count-clause-stopped
returns-in_err-count-clause-stopped g c =
    let store = g.S.Store in
    let codec = g.C.Codec in
    let p = err_from_is_err_and c.from_residual.result c.from_residual.ensures.1 in
    rw (p.1, p.2) (stops_reading codec.does store.told store.settled codec.ends codec.stops (g.R.Read.remaining c.args.reader.now)
    (g.R.Read.remaining c.loop.reader) (g.R.Read.remaining c.serve_round.new.reader) _ _ _ c.in_err-count.field-0.0 c.loop.invariant.so_far
    c.in_err-count.ensures.stopped)

pub returns-in_err-rest-clause-stopped : goal.returns-in_err-rest-clause-stopped
returns-in_err-rest-clause-stopped g c =
    let store = g.S.Store in
    let codec = g.C.Codec in
    let unread = g.R.Read.remaining c.args.reader.now in
    let left = g.R.Read.remaining c.loop.reader in
    let less = g.R.Read.remaining c.serve_round.new.reader in
    let first = on c.args.codec.now c.args.kept.now.device.value (g.W.Write.contents c.args.out.now) (store.disk c.args.kept.now.events) in
    let p = err_from_is_err_and c.from_residual-in_err-rest.result c.from_residual-in_err-rest.ensures.1 in
    rw (p.1, p.2) (stops_in_round codec.does store.told store.settled codec.ends codec.stops unread less first _ _ c.in_err-rest.field-0.0
    (read_on codec.does store.told store.settled unread left less first _ _ c.loop.invariant.so_far c.in_ok-count.ensures.served)
    (c.in_err-rest.ensures.stopped less))

pub returns-in_err-fold-clause-stopped : goal.returns-in_err-fold-clause-stopped
returns-in_err-fold-clause-stopped g c =
    let store = g.S.Store in
    let codec = g.C.Codec in
    let unread = g.R.Read.remaining c.args.reader.now in
    let left = g.R.Read.remaining c.loop.reader in
    let less = g.R.Read.remaining c.serve_round.new.reader in
    let first = on c.args.codec.now c.args.kept.now.device.value (g.W.Write.contents c.args.out.now) (store.disk c.args.kept.now.events) in
    let served = on c.serve_round.new.codec c.serve_round.new.kept.device.value (g.W.Write.contents c.serve_round.new.out)
    (store.disk c.serve_round.new.kept.events) in
    let rested = on c.rest.new.codec c.rest.new.kept.device.value (g.W.Write.contents c.rest.new.out) (store.disk c.rest.new.kept.events) in
    let read = read_on codec.does store.told store.settled unread left less first _ served c.loop.invariant.so_far c.in_ok-count.ensures.served in
    let between = round_read codec.does store.told store.settled unread less first served rested read c.in_ok-rest.ensures.served in
    let p = err_from_is_err_and c.from_residual-in_err-fold.result c.from_residual-in_err-fold.ensures.1 in
    rw (p.1, p.2) (stops_in_round codec.does store.told store.settled codec.ends codec.stops unread less first rested _ c.in_err-fold.field-0.0 between
    (fold_breaks (afresh codec.does) store.told store.settled codec.ends (stops_afresh codec.stops) less c.rest.new.codec c.rest.new.kept.device.value
    c.fold.new.kept.device.value (g.W.Write.contents c.rest.new.out) (store.disk c.rest.new.kept.events) (store.disk c.fold.new.kept.events)
    c.in_err-fold.field-0.0 (g.met.C.Codec.stays c.rest.new.codec c.rest.new.kept.device.value c.rest.ensures.ready) c.fold.ensures.unchanged
    c.fold.ensures.any_moment c.in_err-fold.ensures.unfolded))

pub returns-clause-stopped : goal.returns-clause-stopped
returns-clause-stopped g c =
    let store = g.S.Store in
    let codec = g.C.Codec in
    let unread = g.R.Read.remaining c.args.reader.now in
    let left = g.R.Read.remaining c.loop.reader in
    let first = on c.args.codec.now c.args.kept.now.device.value (g.W.Write.contents c.args.out.now) (store.disk c.args.kept.now.events) in
    stops_in_round codec.does store.told store.settled codec.ends codec.stops unread left first _ _ fault.Read c.loop.invariant.so_far
    (stops_at_rest (afresh codec.does) store.told store.settled codec.ends (stops_afresh codec.stops) left c.loop.codec c.loop.kept.device.value
    (g.W.Write.contents c.loop.out) (store.disk c.loop.kept.events) fault.Read
    (g.met.C.Codec.unread c.loop.codec c.loop.kept.device.value left c.loop.invariant.ready)
    (λ file may. c.rests.ensures.stands c.loop.kept.device.value (store.disk c.loop.kept.events) file c.loop.invariant.settled may)
    c.loop.invariant.settled)
