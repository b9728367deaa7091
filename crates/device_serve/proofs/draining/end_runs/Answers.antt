use Rattle.std.proofs.Common.{◌≡◌, None, refl, ap, sym, subst, ◌∙◌, arith, rules}
use Rattle.std.proofs.lemmas.Result.{err_from_is_err_and}
use Rattle.device_meaning.specs.Draining.{lowest_run, turns_left}
use Rattle.device_meaning.specs.Judging.{interval_judge}
use Rattle.device_meaning.specs.Reached.{IsReached}
use Rattle.device_meaning.specs.State.{State}
use Rattle.device_serve.proofs.EndingRuns.{ended, ending_more, ending_none, ending_stops, turn_less}
use Rattle.device_serve.proofs.draining.end_runs.Goals as goal

pub loop-run-init : goal.loop-run-init
loop-run-init g c = record { ending = ending_none g.P.Spells.spelled c.args.kept.now.device.value c.args.answer.now.items; kept = c.requires.kept; same = refl }

pub loop-run-smaller : goal.loop-run-smaller
loop-run-smaller g c =
    let here : c.deref.result.now ≡ c.loop-run.kept.device.value = search rules in
    let low = ap lowest_run (sym here) ∙ sym c.lowest_run.ensures.lowest ∙ c.in-Some.is in
    let less = turn_less interval_judge c.domains_judge_soundly.ensures c.loop-run.kept.device.value c.in-Some.run'
    (subst (IsReached interval_judge) here c.lowest_run.ensures.reached) low in
    let left = ap (λ (s : State). turns_left s.places) c.in_ok-give_turn.ensures.turned in
    omega (arith, less, left)

pub loop-run-preserved : goal.loop-run-preserved
loop-run-preserved g c =
    let here : c.deref.result.now ≡ c.loop-run.kept.device.value = search rules in
    let low = ap lowest_run (sym here) ∙ sym c.lowest_run.ensures.lowest ∙ c.in-Some.is in
    let less = turn_less interval_judge c.domains_judge_soundly.ensures c.loop-run.kept.device.value c.in-Some.run'
    (subst (IsReached interval_judge) here c.lowest_run.ensures.reached) low in
    let left = ap (λ (s : State). turns_left s.places) c.in_ok-give_turn.ensures.turned in
    record {
      ending = ending_more g.P.Spells.spelled c.args.kept.now.device.value c.loop-run.kept.device.value c.args.answer.now.items c.loop-run.answer.items
          c.loop-run.invariant.ending c.in-Some.run' low c.give_turn.new.kept.device.value c.give_turn.new.answer.items (omega (arith, less, left))
          c.in_ok-give_turn.ensures.turned c.in_ok-give_turn.ensures.answered;
      kept = c.give_turn.ensures.kept;
      same = c.give_turn.ensures.same ∙ c.loop-run.invariant.same;
    }

pub returns-clause-ended : goal.returns-clause-ended
returns-clause-ended g c =
    let here : c.deref.result.now ≡ c.loop-run.kept.device.value = search rules in
    let none : lowest_run c.deref.result.now ≡ None = search rules in
    ended g.P.Spells.spelled c.args.kept.now.device.value c.loop-run.kept.device.value c.args.answer.now.items c.loop-run.answer.items
    c.loop-run.invariant.ending (ap lowest_run (sym here) ∙ none)

pub returns-in_err-give_turn-clause-stopped : goal.returns-in_err-give_turn-clause-stopped
returns-in_err-give_turn-clause-stopped g c =
    let here : c.deref.result.now ≡ c.loop-run.kept.device.value = search rules in
    let low = ap lowest_run (sym here) ∙ sym c.lowest_run.ensures.lowest ∙ c.in-Some.is in
    let p = err_from_is_err_and c.from_residual.result c.from_residual.ensures.1 in
    rw p.1 (ending_stops g.P.Spells.spelled c.args.kept.now.device.value c.loop-run.kept.device.value c.args.answer.now.items c.loop-run.answer.items
    c.loop-run.invariant.ending c.in-Some.run' low c.give_turn.new.kept.device.value c.give_turn.new.answer.items
    c.in_err-give_turn.ensures.perhaps c.in_err-give_turn.ensures.unanswered)
