use Rattle.std.proofs.Common.{◌≡◌, ◌+◌, ◌-◌, ◌*◌, length}
use Rattle.device_serve.specs.steps.FrameParts.{AreFree}
use Rattle.device_serve.proofs.FrameTurns.{GoesRound}
use Rattle.device_serve.proofs.frames.turns.give_turns.Given as goal

abbrev pub invariant-loop-given : goal.invariant-loop-given
invariant-loop-given g l = record {
  round : GoesRound l.turns l.given l.idle l.run l.fn.kept.device.value l.kept.device.value l.fn.answer.items l.answer.items;
  kept : g.S.Store.keeps l.kept.device.value (g.S.Store.waits l.kept.events) (g.S.Store.disk l.kept.events);
  same : g.S.Store.disk l.kept.events ≡ g.S.Store.disk l.fn.kept.events;
  free : AreFree l.free l.kept.device.value;
  all : length l.free ≡ 8;
}

abbrev pub decreases-loop-given : goal.decreases-loop-given
decreases-loop-given g l = 9 * l.turns + 8 - (9 * l.given + l.idle)
