use Rattle.std.proofs.Common.{List, ℕ, subst, sym, arith}
use Rattle.std.proofs.lemmas.Result.{err_from_is_err_and}
use Rattle.device_serve.specs.Rounds.{on}
use Rattle.device_serve.specs.steps.UnderWay.{IsReading}
use Rattle.device_serve.proofs.UnderWay.{read_so_far, read_unanswered, unread_yet}
use Rattle.device_serve.proofs.round.serve_round.Goals as goal

pub returns-in_err-count-clause-stopped : goal.returns-in_err-count-clause-stopped
returns-in_err-count-clause-stopped g c =
    let store = g.S.Store in
    let codec = g.C.Codec in
    let unread = g.R.Read.remaining c.args.reader.now in
    let first = on c.args.codec.now c.args.kept.now.device.value (g.W.Write.contents c.args.out.now) (store.disk c.args.kept.now.events) in
    let p = err_from_is_err_and c.from_residual.result c.from_residual.ensures.1 in
    rw (p.1, p.2) (c.in_err-count.ensures.stopped unread first
    (subst (λ (x : List ℕ). IsReading codec.does store.told store.settled unread unread first first x) (sym c.requires.empty)
    (unread_yet codec.does store.told store.settled unread first c.requires.settled
    (g.met.C.Codec.stays c.args.codec.now c.args.kept.now.device.value c.requires.ready))))

pub loop-kept-init : goal.loop-kept-init
loop-kept-init g c =
    let store = g.S.Store in
    let codec = g.C.Codec in
    let unread = g.R.Read.remaining c.args.reader.now in
    let first = on c.args.codec.now c.args.kept.now.device.value (g.W.Write.contents c.args.out.now) (store.disk c.args.kept.now.events) in
    record {
      reading = c.in_ok-count.ensures.served unread first
          (subst (λ (x : List ℕ). IsReading codec.does store.told store.settled unread unread first first x) (sym c.requires.empty)
          (unread_yet codec.does store.told store.settled unread first c.requires.settled
          (g.met.C.Codec.stays c.args.codec.now c.args.kept.now.device.value c.requires.ready)));
      end = c.in_ok-count.ensures.end;
      kept = c.in_ok-count.ensures.kept;
      ready = c.serve_next.ensures.ready;
      faults = omega (arith, c.serve_next.ensures.blames.later);
    }

pub returns-in_err-flush-clause-stopped : goal.returns-in_err-flush-clause-stopped
returns-in_err-flush-clause-stopped g c =
    let store = g.S.Store in
    let codec = g.C.Codec in
    let now = c.loop-kept in
    let p = err_from_is_err_and c.from_residual-in_err-flush.result c.from_residual-in_err-flush.ensures.1 in
    rw (p.1, p.2) (read_unanswered codec.does store.told store.settled codec.ends codec.stops (g.R.Read.remaining c.args.reader.now)
    (g.R.Read.remaining now.reader) now.answer.items _ now.codec now.kept.device.value c.flush.new.kept.device.value (g.W.Write.contents now.out)
    (g.W.Write.contents c.flush.new.out) (store.disk now.kept.events) (store.disk c.flush.new.kept.events) c.in_err-flush.field-0.0
    now.invariant.reading c.flush.ensures.unchanged c.flush.ensures.any_moment c.in_err-flush.ensures.unsent c.in_err-flush.ensures.on_disk)

pub returns-clause-served : goal.returns-clause-served
returns-clause-served g c =
    let store = g.S.Store in
    let codec = g.C.Codec in
    let now = c.loop-kept in
    read_so_far codec.does store.told store.settled (g.R.Read.remaining c.args.reader.now) (g.R.Read.remaining now.reader) now.answer.items _ now.codec
    now.kept.device.value c.flush.new.kept.device.value (g.W.Write.contents now.out) (g.W.Write.contents c.flush.new.out) (store.disk now.kept.events)
    (store.disk c.flush.new.kept.events) now.invariant.reading c.flush.ensures.unchanged c.flush.ensures.any_moment c.in_ok-flush.ensures.settled
    c.in_ok-flush.ensures.written
