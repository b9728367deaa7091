use Rattle.std.proofs.Common.{ℕ, List, false, OnOk, subst, sym}
use Rattle.device_events.specs.declared.event.Event.{Event}
use Rattle.event_frames.specs.Frames.{request_frame}
use Rattle.event_frames.specs.Requests.{Submitted, told_event}
use Rattle.durable_device.specs.Machine.{next_state}
use Rattle.durable_device.proofs.notes.note.Goals as goal

pub returns-in-Submit-clause-noted : goal.returns-in-Submit-clause-noted
returns-in-Submit-clause-noted g c device kept =
    let store = g.S.Store in
    let e = c.in-Submit in
    subst (λ (x : Event). OnOk c.note_submission.result (store.keeps (next_state device false (request_frame (told_event x)))
    (store.waits c.note_submission.new.events) (store.disk c.note_submission.new.events))) (sym e.is)
    (subst (λ (l : List ℕ). OnOk c.note_submission.result (store.keeps (next_state device false (request_frame (Submitted e.queue e.entry l)))
    (store.waits c.note_submission.new.events) (store.disk c.note_submission.new.events))) c.as_slice.ensures.value
    (c.note_submission.ensures.noted device kept))

pub returns-in-Turn-clause-noted : goal.returns-in-Turn-clause-noted
returns-in-Turn-clause-noted g c device kept =
    let store = g.S.Store in
    subst (λ (x : Event). OnOk c.note_turn.result (store.keeps (next_state device false (request_frame (told_event x)))
    (store.waits c.note_turn.new.events) (store.disk c.note_turn.new.events))) (sym c.in-Turn.is)
    (c.note_turn.ensures.noted device kept)

pub returns-in-Fault-clause-noted : goal.returns-in-Fault-clause-noted
returns-in-Fault-clause-noted g c device kept =
    let store = g.S.Store in
    subst (λ (x : Event). OnOk c.note_fault.result (store.keeps (next_state device false (request_frame (told_event x)))
    (store.waits c.note_fault.new.events) (store.disk c.note_fault.new.events))) (sym c.in-Fault.is)
    (c.note_fault.ensures.noted device kept)
