use Rattle.std.proofs.Common.{ap, arith, drop, is_some, subst, sym, take, take_all, List, ◌≡◌, ◌+◌, ◌-◌, ◌∙◌}
use Rattle.device_events.specs.declared.event.Event.{Event}
use Rattle.device_meaning.specs.Judging.{judge_by}
use Rattle.device_meaning.specs.Events.{HasServed}
use Rattle.command_exec.specs.Refused.{NoneRefused}
use Rattle.command_exec.specs.declared.watched.Tally.{Tally}
use Rattle.command_exec.specs.steps.Tallied.{Watches}
use Rattle.command_exec.proofs.Stopping.{begun_next, no_first, on_err, refused_next, unrefused_next}
use Rattle.command_exec.proofs.Tallies.{watches_joins}
use Rattle.command_exec.proofs.serving.serve_to_refusal.Goals as goal

pub returns-in_err-serve-clause-goes : goal.returns-in_err-serve-clause-goes
returns-in_err-serve-clause-goes g c =
    (_, watches_joins g.P.Out.took g.met.P.Out.joins c.args.replies.now c.loop-index.replies c.serve.new.out _ _ c.loop-index.invariant.served.replies.0 c.in_err-serve.ensures.stopped.replies)

pub returns-in_err-serve-clause-stopped : goal.returns-in_err-serve-clause-stopped
returns-in_err-serve-clause-stopped g c =
    let one : c.loop-index.index + 1 - c.loop-index.index ≡ 1 = omega arith in
    on_err c.from_residual.result
    (begun_next (judge_by g.D.Domain.operations) c.args.events.now c.loop-index.index _ c.args.device.now c.loop-index.device c.serve.new.self _ _ c.in_err-serve.field-0.0.done
    (ap (λ n. take n (drop c.loop-index.index c.args.events.now)) one) (omega (arith, c.loop-index-test.true)) c.loop-index.invariant.served c.in_err-serve.ensures.stopped)

pub returns-then-is_some-clause-goes : goal.returns-then-is_some-clause-goes
returns-then-is_some-clause-goes g c =
    (_, watches_joins g.P.Out.took g.met.P.Out.joins c.args.replies.now c.loop-index.replies c.serve.new.out _ _ c.loop-index.invariant.served.replies.0 c.in_ok-serve.ensures.served.replies)

pub returns-then-is_some-clause-refused : goal.returns-then-is_some-clause-refused
returns-then-is_some-clause-refused g c = λ _.
    let one : c.loop-index.index + 1 - c.loop-index.index ≡ 1 = omega arith in
    refused_next (judge_by g.D.Domain.operations) g.P.Out.took g.met.P.Out.joins c.args.events.now c.loop-index.index _ c.args.device.now c.loop-index.device c.serve.new.self
    c.args.replies.now c.loop-index.replies c.serve.new.out (ap (λ n. take n (drop c.loop-index.index c.args.events.now)) one) c.loop-index-test.true
    c.loop-index.invariant.none c.loop-index.invariant.served c.in_ok-serve.ensures.served
    (ap (λ (tally : Tally). is_some tally.first) (sym c.tally.ensures) ∙ sym c.is_some.ensures ∙ c.if-is_some.true)

pub loop-index-preserved : goal.loop-index-preserved
loop-index-preserved g c =
    let one : c.loop-index.index + 1 - c.loop-index.index ≡ 1 = omega arith in
    let none = ap (λ (tally : Tally). is_some tally.first) (sym c.tally.ensures) ∙ sym c.is_some.ensures ∙ c.if-is_some.false in
    record {
      served = unrefused_next (judge_by g.D.Domain.operations) g.P.Out.took g.met.P.Out.joins c.args.events.now c.loop-index.index _ c.args.device.now c.loop-index.device c.serve.new.self
          c.args.replies.now c.loop-index.replies c.serve.new.out (ap (λ n. take n (drop c.loop-index.index c.args.events.now)) one) c.loop-index-test.true
          c.loop-index.invariant.none c.loop-index.invariant.served c.in_ok-serve.ensures.served none;
      refused = c.in_ok-serve.ensures.refused ∙ c.loop-index.invariant.refused;
      none = no_first c.serve.new.out.tally.first none;
    }

pub returns-clause-goes : goal.returns-clause-goes
returns-clause-goes g c = (_, c.loop-index.invariant.served.replies.0)

pub returns-clause-all : goal.returns-clause-all
returns-clause-all g c = λ _.
    subst (λ (list : List Event). HasServed (judge_by g.D.Domain.operations) list c.args.device.now c.loop-index.device
    (λ given. Watches g.P.Out.took c.args.replies.now c.loop-index.replies given × NoneRefused given))
    (take_all c.loop-index.index c.args.events.now c.loop-index-test.false) c.loop-index.invariant.served
