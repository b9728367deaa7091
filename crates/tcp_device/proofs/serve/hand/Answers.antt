use Rattle.std.proofs.Common.{IsTrue, sym, subst, arith}
use Rattle.tcp_target.specs.Places.{has_room}
use Rattle.tcp_target.specs.QueueCommands.{connect_data_at}
use Rattle.tcp_target.specs.Queues.{place_at}
use Rattle.tcp_target.specs.Target.{TargetState}
use Rattle.tcp_device.proofs.Room.{handed_room}
use Rattle.tcp_device.proofs.Submitted.{handed, handed_front}
use Rattle.tcp_device.proofs.serve.hand.Goals as goal

pub complete-requires-clause-room : goal.complete-requires-clause-room
complete-requires-clause-room c =
    subst (λ (t : TargetState). IsTrue (has_room 131072 (place_at c.args.number t.queues))) (sym c.hand_over.ensures)
    (handed_room c.args.number 131072 c.args.target.now.queues c.requires.ready (omega arith))

pub complete-requires-2-clause-room : goal.complete-requires-2-clause-room
complete-requires-2-clause-room c =
    subst (λ (t : TargetState). IsTrue (has_room 131072 (place_at c.args.number t.queues))) (sym c.hand_over-2.ensures)
    (handed_room c.args.number 131072 c.args.target.now.queues c.requires.ready (omega arith))

pub returns-in-Some : goal.returns-in-Some
returns-in-Some c =
    let a = c.args in
    let given = c.in-Some.stored in
    handed a.entry.now (connect_data_at a.number a.target.now.queues) c.given_data-input.result.now given.bytes.now
    a.number a.device.now a.device.now given.reply a.target.now c.hand_over.new.self c.complete.new.target
    c.in-Some.ensures.submitted c.in-Some.ensures.most c.given_data-input.ensures c.hand_over.ensures c.complete.ensures

pub returns : goal.returns
returns c =
    let a = c.args in
    handed_front a.entry.now (connect_data_at a.number a.target.now.queues) c.given_data-input.result.now c.submit-reply.new.output
    c.data_length.result a.number a.device.now c.submit-reply.new.self c.submit-reply.result a.target.now c.hand_over-2.new.self c.complete-2.new.target
    c.submit-reply.ensures.submitted (omega (arith, c.submit-reply.auto.output, c.requires.output)) c.given_data-input.ensures c.hand_over-2.ensures
    c.data_length.ensures c.complete-2.ensures
