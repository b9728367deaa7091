use Rattle.std.proofs.Common.{rules, ◌≡◌, take, subst, sym}
use Rattle.device_events.specs.Replies.{ReplyWithData, data_length}
use Rattle.device_meaning.specs.Events.{HasHappened}
use Rattle.device_meaning.specs.Judging.{interval_judge}
use Rattle.device_meaning.specs.State.{State}
use Rattle.device_serve.proofs.LongData.{long_leaves}
use Rattle.device_serve.proofs.kept.KeptDevice.apply_any.Goals as goal

pub returns-clause-kept : goal.returns-clause-kept
returns-clause-kept g c =
    let store = g.S.Store in
    let r : ReplyWithData = record { reply = c.apply-2.result; bytes = take (data_length c.apply-2.result) c.apply-2.new.output } in
    let here : c.deref_mut.result.now ≡ c.args.self.now.device.value = search rules in
    let happened : HasHappened interval_judge c.args.event.now c.args.self.now.device.value c.apply-2.new.self r =
    subst (λ (s : State). HasHappened interval_judge c.args.event.now s c.apply-2.new.self r) here c.apply-2.ensures.happened in
    subst (λ s. store.keeps s (store.waits c.args.self.now.events) (store.disk c.args.self.now.events))
    (sym (long_leaves c.args.event.now c.args.self.now.device.value c.apply-2.new.self r (c.fits_frame.ensures.long c.if-fits_frame.false) happened))
    c.requires.kept
