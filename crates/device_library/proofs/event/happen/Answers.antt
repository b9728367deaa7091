use Rattle.device_library.proofs.Turning.{turn_happens}
use Rattle.device_library.proofs.event.happen.Goals as goal

pub returns-then-kind-eq-TURN : goal.returns-then-kind-eq-TURN
returns-then-kind-eq-TURN c =
    turn_happens c.args.entry.now c.args.input.now c.args.kind c.args.number c.args.device.now c.turns.new.self c.turns.result c.args.output.now
    c.if-kind-eq-TURN.true c.turns.ensures.reply c.turns.ensures.state c.turns.ensures.no_data

pub returns : goal.returns
returns c = record {
  event = c.fault.result;
  asked_for = c.fault.ensures c.args.entry.now c.args.input.now;
  happened = c.apply.ensures.happened;
  rest = c.apply.ensures.rest;
}
