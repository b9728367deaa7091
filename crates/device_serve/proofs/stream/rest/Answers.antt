use Rattle.std.proofs.Common.{◌≡◌, OnOk, subst, sym, ◌≤◌, []}
use Rattle.std.proofs.lemmas.Result.{IfErr-at_err, err_from_is_err_and}
use Rattle.stored_file.specs.File.{LeavesOnly}
use Rattle.durable_device.specs.Kept.{IsEither}
use Rattle.device_serve.specs.Rounds.{IsCodecs, afresh, stops_afresh}
use Rattle.device_serve.specs.declared.fault.ServeFault.{ServeFault}
use Rattle.device_serve.specs.declared.fault.ServeFault.TheVariants as fault
use Rattle.device_serve.proofs.Serving.{begun_at_rest, round_of, stops_answered, stops_unsent}
use Rattle.device_serve.proofs.stream.rest.Goals as goal

pub rest-done-requires-clause-kept : goal.rest-done-requires-clause-kept
rest-done-requires-clause-kept g c =
    let store = g.S.Store in
    subst (λ w. store.keeps c.args.kept.now.device.value w (store.disk c.args.kept.now.events)) (sym c.requires.none)
    (c.rests.ensures.at_rest c.args.kept.now.device.value (store.disk c.args.kept.now.events) c.requires.settled)

no_disk : (why : ServeFault) → IsCodecs why → why ≡ fault.Disk → ⊥
no_disk why own is = subst IsCodecs is own

pub returns-in-Err-clause-blames : goal.returns-in-Err-clause-blames
returns-in-Err-clause-blames g c =
    let store = g.S.Store in
    record {
      later = subst (λ d. (store.told d).faults ≤ (store.told (store.disk c.flush.new.kept.events)).faults) c.rest-done.ensures.same c.flush.ensures.blames.later;
      failed = λ is. absurd (no_disk c.in-Err.fault (IfErr-at_err IsCodecs c.in-Err.is c.rest-done.ensures.codecs) (cc));
    }

pub returns-in-Ok-clause-served : goal.returns-in-Ok-clause-served
returns-in-Ok-clause-served g c =
    let store = g.S.Store in
    let codec = g.C.Codec in
    let s = c.args.kept.now.device.value in
    let t = c.rest-done.new.kept.device.value in
    let d = store.disk c.args.kept.now.events in
    let e = store.disk c.flush.new.kept.events in
    let moments : LeavesOnly (store.told d) (store.told e) (IsEither s t) =
    subst (λ x. LeavesOnly (store.told x) (store.told e) (IsEither s t)) c.rest-done.ensures.same
    (c.flush.ensures.any_moment s (subst (λ x. store.settled s x) (sym c.rest-done.ensures.same) c.requires.settled)) in
    let done = subst (λ r. OnOk r (codec.does c.args.codec.now s [] [] c.rest-done.new.self t c.rest-done.new.answer.items)) c.in-Ok.is c.rest-done.ensures.done in
    round_of (afresh codec.does) store.told store.settled [] c.rest-done.new.answer.items c.args.codec.now c.rest-done.new.self s t
    c.flush.new.kept.device.value (g.W.Write.contents c.args.out.now) (g.W.Write.contents c.flush.new.out) d e
    done c.flush.ensures.unchanged moments c.in_ok-flush.ensures.settled c.in_ok-flush.ensures.written

pub returns-in-Err-clause-stopped : goal.returns-in-Err-clause-stopped
returns-in-Err-clause-stopped g c = λ left.
    let store = g.S.Store in
    let codec = g.C.Codec in
    let s = c.args.kept.now.device.value in
    let t = c.rest-done.new.kept.device.value in
    let d = store.disk c.args.kept.now.events in
    let e = store.disk c.flush.new.kept.events in
    let moments : LeavesOnly (store.told d) (store.told e) (IsEither s t) =
    subst (λ x. LeavesOnly (store.told x) (store.told e) (IsEither s t)) c.rest-done.ensures.same
    (c.flush.ensures.any_moment s (subst (λ x. store.settled s x) (sym c.rest-done.ensures.same) c.requires.settled)) in
    stops_answered (afresh codec.does) store.told store.settled codec.ends (stops_afresh codec.stops) [] c.rest-done.new.answer.items left c.args.codec.now c.rest-done.new.self
    s t c.flush.new.kept.device.value (g.W.Write.contents c.args.out.now) (g.W.Write.contents c.flush.new.out) d e c.in-Err.fault
    (IfErr-at_err (codec.stops c.args.codec.now s [] [] left c.rest-done.new.self t c.rest-done.new.answer.items) c.in-Err.is (c.rest-done.ensures.stopped left))
    c.flush.ensures.unchanged moments c.in_ok-flush.ensures.settled c.in_ok-flush.ensures.written

pub returns-in_err-flush-clause-stopped : goal.returns-in_err-flush-clause-stopped
returns-in_err-flush-clause-stopped g c = λ left.
    let store = g.S.Store in
    let codec = g.C.Codec in
    let s = c.args.kept.now.device.value in
    let t = c.rest-done.new.kept.device.value in
    let d = store.disk c.args.kept.now.events in
    let e = store.disk c.flush.new.kept.events in
    let moments : LeavesOnly (store.told d) (store.told e) (IsEither s t) =
    subst (λ x. LeavesOnly (store.told x) (store.told e) (IsEither s t)) c.rest-done.ensures.same
    (c.flush.ensures.any_moment s (subst (λ x. store.settled s x) (sym c.rest-done.ensures.same) c.requires.settled)) in
    let w = g.W.Write.contents c.args.out.now in
    let p = err_from_is_err_and c.from_residual.result c.from_residual.ensures.1 in
    rw (p.1, p.2) (stops_unsent (afresh codec.does) store.told store.settled codec.ends (stops_afresh codec.stops) [] c.rest-done.new.answer.items left
    c.args.codec.now c.rest-done.new.self s t c.flush.new.kept.device.value w w (g.W.Write.contents c.flush.new.out) w d d e d c.in_err-flush.field-0.0
    (begun_at_rest (afresh codec.does) store.told store.settled codec.ends (stops_afresh codec.stops) c.rest-done.new.answer.items left c.args.codec.now c.rest-done.new.self s t w w d d c.rest-done.result c.rest-done.ensures.done (c.rest-done.ensures.stopped left))
    c.flush.ensures.unchanged moments c.in_err-flush.ensures.unsent c.in_err-flush.ensures.on_disk)
