use Rattle.std.proofs.Common.{rules, ◌≡◌, take, subst, sym, ◌∙◌}
use Rattle.device_events.specs.Replies.{ReplyWithData, data_length}
use Rattle.device_meaning.specs.Events.{HasHappened}
use Rattle.device_meaning.specs.Judging.{interval_judge}
use Rattle.device_meaning.specs.State.{State}
use Rattle.device_serve.proofs.Events.{changed, unchanged}
use Rattle.device_serve.proofs.kept.KeptDevice.apply.Goals as goal

pub returns-then-may_change-clause-kept : goal.returns-then-may_change-clause-kept
returns-then-may_change-clause-kept g c =
    let store = g.S.Store in
    let r : ReplyWithData = record { reply = c.apply-reply.result; bytes = take (data_length c.apply-reply.result) c.apply-reply.new.output } in
    let here : c.deref_mut.result.now ≡ c.args.self.now.device.value = search rules in
    let happened : HasHappened interval_judge c.args.event.now c.args.self.now.device.value c.apply-reply.new.self r =
    subst (λ (s : State). HasHappened interval_judge c.args.event.now s c.apply-reply.new.self r) here c.apply-reply.ensures.happened in
    subst (λ s. store.keeps s (store.waits c.note.new.events) (store.disk c.note.new.events))
    (sym (changed c.changes_come_again.ensures c.args.event.now c.args.self.now.device.value c.apply-reply.new.self r c.may_change.ensures.identifier
    happened c.requires.fits (sym c.may_change.ensures.told ∙ c.if-may_change.true)))
    (c.in_ok-before.ensures.noted c.args.self.now.device.value c.requires.kept)

pub returns-clause-kept : goal.returns-clause-kept
returns-clause-kept g c =
    let store = g.S.Store in
    let r : ReplyWithData = record { reply = c.apply-reply.result; bytes = take (data_length c.apply-reply.result) c.apply-reply.new.output } in
    let here : c.deref_mut.result.now ≡ c.args.self.now.device.value = search rules in
    let happened : HasHappened interval_judge c.args.event.now c.args.self.now.device.value c.apply-reply.new.self r =
    subst (λ (s : State). HasHappened interval_judge c.args.event.now s c.apply-reply.new.self r) here c.apply-reply.ensures.happened in
    let back : store.waits c.take_back.new.self ≡ store.waits c.args.self.now.events = search rules in
    let same : store.disk c.take_back.new.self ≡ store.disk c.args.self.now.events = search rules in
    subst (λ s. store.keeps s (store.waits c.take_back.new.self) (store.disk c.take_back.new.self))
    (sym (unchanged c.changes_come_again.ensures c.args.event.now c.args.self.now.device.value c.apply-reply.new.self r c.may_change.ensures.identifier
    happened (sym c.may_change.ensures.told ∙ c.if-may_change.false)))
    (subst (λ w. store.keeps c.args.self.now.device.value w (store.disk c.take_back.new.self)) (sym back)
    (subst (λ d. store.keeps c.args.self.now.device.value (store.waits c.args.self.now.events) d) (sym same) c.requires.kept))
