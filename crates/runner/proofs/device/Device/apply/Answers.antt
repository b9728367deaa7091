use Rattle.std.proofs.Common.{false, subst, sym, ◌∙◌}
use Rattle.common_definitions.specs.Bytes.{AreBytes}
use Rattle.device_meaning.specs.Judging.{judge_by}
use Rattle.device_meaning.specs.Events.{HasHappened}
use Rattle.device_meaning.specs.State.{State}
use Rattle.device_events.specs.declared.event.Event.{Event}
use Rattle.device_events.specs.declared.event.Event.TheVariants as event
use Rattle.device_events.specs.ToldEvents as told
use Rattle.runner.specs.steps.Answered.{with_data}
use Rattle.runner.proofs.Happened.{reached_more, submission_happened, submission_reached}
use Rattle.runner.proofs.device.Device.apply.Goals as goal

pub invariant_of-self : goal.invariant_of-self
invariant_of-self g c =
    let e = c.in-Submit in
    let made = c.new-submission in
    submission_reached (judge_by g.D.Domain.operations) e.queue e.entry e.input made.result c.self.inside.state c.submit.new.state (with_data c.submit.result c.submit.new.output)
    c.self.invariant (subst AreBytes c.as_slice.ensures.value made.ensures.bytes) made.ensures.queue made.ensures.entry
    (made.ensures.input ∙ c.as_slice.ensures.value) c.submit.ensures.submitted

pub invariant_of-self-in-Turn : goal.invariant_of-self-in-Turn
invariant_of-self-in-Turn g c =
    reached_more (judge_by g.D.Domain.operations) c.self.inside.state c.turn.new.state (record { event = told.Turned c.in-Turn.run'; starved = false })
    c.self.invariant tt c.turn.ensures.state

pub invariant_of-self-in-Fault : goal.invariant_of-self-in-Fault
invariant_of-self-in-Fault g c =
    reached_more (judge_by g.D.Domain.operations) c.self.inside.state c.fault.new.self (record { event = told.Faulted c.in-Fault.zone c.in-Fault.state; starved = false })
    c.self.invariant tt c.fault.ensures.state

pub returns-in-Submit-clause-reached : goal.returns-in-Submit-clause-reached
returns-in-Submit-clause-reached g c =
    let e = c.in-Submit in
    let made = c.new-submission in
    submission_reached (judge_by g.D.Domain.operations) e.queue e.entry e.input made.result c.self.inside.state c.submit.new.state (with_data c.submit.result c.submit.new.output)
    c.self.invariant (subst AreBytes c.as_slice.ensures.value made.ensures.bytes) made.ensures.queue made.ensures.entry
    (made.ensures.input ∙ c.as_slice.ensures.value) c.submit.ensures.submitted

pub returns-in-Turn-clause-reached : goal.returns-in-Turn-clause-reached
returns-in-Turn-clause-reached g c =
    reached_more (judge_by g.D.Domain.operations) c.self.inside.state c.turn.new.state (record { event = told.Turned c.in-Turn.run'; starved = false })
    c.self.invariant tt c.turn.ensures.state

pub returns-in-Fault-clause-reached : goal.returns-in-Fault-clause-reached
returns-in-Fault-clause-reached g c =
    reached_more (judge_by g.D.Domain.operations) c.self.inside.state c.fault.new.self (record { event = told.Faulted c.in-Fault.zone c.in-Fault.state; starved = false })
    c.self.invariant tt c.fault.ensures.state

pub returns-in-Submit-clause-happened : goal.returns-in-Submit-clause-happened
returns-in-Submit-clause-happened g c =
    let e = c.in-Submit in
    let made = c.new-submission in
    let new = c.submit.new.state in
    let reply = with_data c.submit.result c.submit.new.output in
    let happened = submission_happened (judge_by g.D.Domain.operations) e.queue e.entry e.input made.result c.self.inside.state new reply made.ensures.queue made.ensures.entry
    (made.ensures.input ∙ c.as_slice.ensures.value) c.submit.ensures.submitted in
    subst (λ (x : Event). HasHappened (judge_by g.D.Domain.operations) x c.args.self.now new reply) (sym e.is)
    (subst (λ (s : State). HasHappened (judge_by g.D.Domain.operations) (event.Submit e.queue e.entry e.input) s new reply) c.self.view_is happened)
