use Rattle.std.proofs.Common.{◌≡◌, Some, ap, length, sym, subst, ◌∙◌, rules}
use Rattle.std.proofs.lemmas.Result.{err_from_is_err_and}
use Rattle.event_frames.specs.Streams.{SessionState, Takes}
use Rattle.device_serve.proofs.FrameTakes.{breaks_there, cut_back, fails_there, one_asked}
use Rattle.device_serve.proofs.frames.do_next.Goals as goal

pub returns-in-Ok-clause-done : goal.returns-in-Ok-clause-done
returns-in-Ok-clause-done g c =
    let some : c.in_ok-count.field-0.request ≡ Some c.in-Some.request = cc in
    one_asked g.K.Keep.has_kept g.K.Keep.becomes c.args.codec.now.turns c.args.codec.now.ends_runs c.args.codec.now.session c.reuse.new.self
    c.args.rest.now c.in_ok-count.field-0.count c.args.codec.now.keeper c.do_request.new.keeper c.args.kept.now.device.value
    c.do_request.new.kept.device.value c.args.answer.now.items c.do_request.new.answer.items c.in_ok-count.field-0.request c.in-Some.request
    c.do_request.ensures.keeper
    (ap (λ (s : SessionState). s.fault) c.reuse.ensures ∙ c.in_ok-count.ensures.still ∙ sym c.in_ok-count.ensures.healthy) some
    (subst (λ (x : SessionState). Takes c.args.codec.now.session x c.args.rest.now c.in_ok-count.field-0.count c.in_ok-count.field-0.request)
    (sym c.reuse.ensures) c.in_ok-count.ensures.taken)
    c.in-Ok.ensures.done

pub returns-in_err-count-clause-stopped : goal.returns-in_err-count-clause-stopped
returns-in_err-count-clause-stopped g c = λ left.
    let p = err_from_is_err_and c.from_residual.result c.from_residual.ensures.1 in
    rw (p.1, p.2) (breaks_there g.K.Keep.has_kept g.K.Keep.becomes c.args.codec.now.turns c.args.codec.now.ends_runs c.args.codec.now.session
    c.take.new.self c.args.rest.now 0 c.args.codec.now.keeper c.args.kept.now.device.value c.args.answer.now.items c.in_err-count.field-0.0 left
    (g.met.K.Keep.stays c.args.codec.now.keeper) c.in_err-count.ensures.broken)

pub returns-in-Err-clause-stopped : goal.returns-in-Err-clause-stopped
returns-in-Err-clause-stopped g c = λ left.
    let some : c.in_ok-count.field-0.request ≡ Some c.in-Some.request = cc in
    let whole : c.len-before.result ≡ length c.args.answer.now.items = search rules in
    fails_there g.K.Keep.has_kept g.K.Keep.becomes c.args.codec.now.turns c.args.codec.now.ends_runs c.args.codec.now.session c.take.new.self
    c.args.rest.now c.in_ok-count.field-0.count c.args.codec.now.keeper c.do_request.new.keeper c.args.kept.now.device.value
    c.do_request.new.kept.device.value c.args.answer.now.items c.truncate.new.self.items c.in_ok-count.field-0.request c.in-Some.request c.in-Err.fault
    left c.do_request.ensures.keeper some c.in_ok-count.ensures.taken c.in-Err.ensures.fails
    (cut_back c.len-before.result c.args.answer.now.items c.do_request.new.answer.items c.truncate.new.self.items c.do_request.ensures.grown
    c.truncate.ensures.items whole)
