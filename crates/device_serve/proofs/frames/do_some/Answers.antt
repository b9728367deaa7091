use Rattle.std.proofs.Common.{◌≡◌, ◌≤◌, ◌<◌, ◌-◌, zero, suc, List, ℕ, None, drop, length, take, refl, ap, subst, sym, ◌∙◌, arith}
use Rattle.std.proofs.Math.Seq.{take-add}
use Rattle.std.proofs.lemmas.List.{length-drop, take-append-drop, take_all}
use Rattle.std.proofs.lemmas.Result.{err_from_is_err_and}
use Rattle.device_serve.specs.FrameStream.{Does, Stops, reader}
use Rattle.device_serve.specs.steps.FrameLaws.{nothing_done}
use Rattle.device_serve.proofs.FrameSteps.{does_on, of_stops, stops_on}
use Rattle.device_serve.proofs.frames.do_some.Goals as goal

-- what is left of a piece
left_whole : (taken : ℕ) (piece : List ℕ) → take (length piece - taken) (drop taken piece) ≡ drop taken piece
left_whole taken piece = take_all (length piece - taken) (drop taken piece) (omega (arith, length-drop taken piece))

-- where much waits, some was taken
some_taken : (taken : ℕ) (before answer : List ℕ) → (taken ≡ 0 → answer ≡ before) → length before < 1048576 → 1048576 ≤ length answer → 0 < taken
some_taken zero before answer none few much = let same : length answer ≡ length before = ap length (none refl) in omega (arith, same, few, much)
some_taken (suc n) before answer none few much = omega arith

pub loop-taken-init : goal.loop-taken-init
loop-taken-init g c =
    let codec = reader c.args.codec.now.session c.args.codec.now.turns c.args.codec.now.ends_runs c.args.codec.now.keeper in
    record {
      done = nothing_done g.K.Keep.has_kept g.K.Keep.becomes g.met.K.Keep.stays codec c.args.kept.now.device.value c.args.answer.now.items;
      within = omega arith;
      some = λ none. refl;
      ready = c.requires.ready;
      kept = c.requires.kept;
      same = refl;
    }

pub loop-taken-preserved : goal.loop-taken-preserved
loop-taken-preserved g c =
    let first = reader c.args.codec.now.session c.args.codec.now.turns c.args.codec.now.ends_runs c.args.codec.now.keeper in
    let now = reader c.loop-taken.codec.session c.loop-taken.codec.turns c.loop-taken.codec.ends_runs c.loop-taken.codec.keeper in
    let then = reader c.do_next.new.codec.session c.do_next.new.codec.turns c.do_next.new.codec.ends_runs c.do_next.new.codec.keeper in
    let left : List ℕ = drop c.loop-taken.taken c.args.piece.now in
    let next : Does g.K.Keep.has_kept g.K.Keep.becomes now c.loop-taken.kept.device.value c.loop-taken.answer.items (take c.in_ok-count.count left)
    then c.do_next.new.kept.device.value c.do_next.new.answer.items =
    subst (λ (rest : List ℕ). Does g.K.Keep.has_kept g.K.Keep.becomes now c.loop-taken.kept.device.value c.loop-taken.answer.items
    (take c.in_ok-count.count rest) then c.do_next.new.kept.device.value c.do_next.new.answer.items)
    (left_whole c.loop-taken.taken c.args.piece.now) c.in_ok-count.ensures.done in
    let within : c.in_ok-count.count ≤ length left =
    subst (λ (rest : List ℕ). c.in_ok-count.count ≤ length rest) (left_whole c.loop-taken.taken c.args.piece.now) c.in_ok-count.ensures.within in
    let some_left : 0 < length left = omega (arith, length-drop c.loop-taken.taken c.args.piece.now, c.loop-taken-test.true) in
    let some : 0 < c.in_ok-count.count = c.in_ok-count.ensures.some (subst (λ (rest : List ℕ). 0 < length rest) (sym (left_whole c.loop-taken.taken c.args.piece.now)) some_left) in
    record {
      done = subst (λ (bytes : List ℕ). Does g.K.Keep.has_kept g.K.Keep.becomes first c.args.kept.now.device.value c.args.answer.now.items bytes then c.do_next.new.kept.device.value c.do_next.new.answer.items)
          (sym (take-add c.loop-taken.taken c.in_ok-count.count c.args.piece.now))
          (does_on g.K.Keep.has_kept g.K.Keep.becomes g.met.K.Keep.joins first now c.args.kept.now.device.value c.loop-taken.kept.device.value
          c.args.answer.now.items c.loop-taken.answer.items (take c.loop-taken.taken c.args.piece.now) c.loop-taken.invariant.done then c.do_next.new.kept.device.value
          c.do_next.new.answer.items (take c.in_ok-count.count left) next);
      within = omega (arith, within, length-drop c.loop-taken.taken c.args.piece.now, c.loop-taken.invariant.within);
      some = λ none. absurd (omega (arith, none, some));
      ready = c.do_next.ensures.ready;
      kept = c.do_next.ensures.kept;
      same = c.do_next.ensures.same ∙ c.loop-taken.invariant.same;
    }

pub returns-in_err-count-clause-stopped : goal.returns-in_err-count-clause-stopped
returns-in_err-count-clause-stopped g c = λ left.
    let first = reader c.args.codec.now.session c.args.codec.now.turns c.args.codec.now.ends_runs c.args.codec.now.keeper in
    let now = reader c.loop-taken.codec.session c.loop-taken.codec.turns c.loop-taken.codec.ends_runs c.loop-taken.codec.keeper in
    let then = reader c.do_next.new.codec.session c.do_next.new.codec.turns c.do_next.new.codec.ends_runs c.do_next.new.codec.keeper in
    let s = c.args.kept.now.device.value in
    let t = c.loop-taken.kept.device.value in
    let u = c.do_next.new.kept.device.value in
    let why = c.in_err-count.field-0.0 in
    let p = err_from_is_err_and c.from_residual.result c.from_residual.ensures.1 in
    rw (p.1, p.2) (subst (λ (bytes : List ℕ). Stops g.K.Keep.has_kept g.K.Keep.becomes first s c.args.answer.now.items bytes left then u c.do_next.new.answer.items why)
    (take-append-drop c.loop-taken.taken c.args.piece.now)
    (stops_on g.K.Keep.has_kept g.K.Keep.becomes g.met.K.Keep.joins first now s t c.args.answer.now.items c.loop-taken.answer.items (take c.loop-taken.taken c.args.piece.now)
    c.loop-taken.invariant.done then u c.do_next.new.answer.items (drop c.loop-taken.taken c.args.piece.now) left why
    (subst (λ (rest : List ℕ). Stops g.K.Keep.has_kept g.K.Keep.becomes now t c.loop-taken.answer.items rest left then u c.do_next.new.answer.items why)
    (left_whole c.loop-taken.taken c.args.piece.now) (c.in_err-count.ensures.stopped left))))

pub returns-in_err-count-clause-codecs : goal.returns-in_err-count-clause-codecs
returns-in_err-count-clause-codecs g c =
    let now = reader c.loop-taken.codec.session c.loop-taken.codec.turns c.loop-taken.codec.ends_runs c.loop-taken.codec.keeper in
    let then = reader c.do_next.new.codec.session c.do_next.new.codec.turns c.do_next.new.codec.ends_runs c.do_next.new.codec.keeper in
    let p = err_from_is_err_and c.from_residual.result c.from_residual.ensures.1 in
    rw (p.1, p.2) (of_stops g.K.Keep.has_kept g.K.Keep.becomes now c.loop-taken.kept.device.value c.loop-taken.answer.items _ None then
    c.do_next.new.kept.device.value c.do_next.new.answer.items c.in_err-count.field-0.0 (c.in_err-count.ensures.stopped None))

pub returns-in_err-count-clause-same : goal.returns-in_err-count-clause-same
returns-in_err-count-clause-same g c = c.do_next.ensures.same ∙ c.loop-taken.invariant.same

pub returns-else-len-lt-MOST_WAITING-clause-some : goal.returns-else-len-lt-MOST_WAITING-clause-some
returns-else-len-lt-MOST_WAITING-clause-some g c = λ few some.
    some_taken c.loop-taken.taken c.args.answer.now.items c.loop-taken.answer.items c.loop-taken.invariant.some few
    (omega (arith, c.if-len-lt-MOST_WAITING.false))
