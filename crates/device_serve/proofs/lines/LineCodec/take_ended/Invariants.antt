use Rattle.std.proofs.Common.{◌≡◌, ◌-◌, ◌≤◌, ◌++◌, drop, length}
use Rattle.device_serve.specs.LineStream.{IsReady}
use Rattle.device_serve.specs.LineSteps.{ServesPiece}
use Rattle.device_serve.proofs.lines.LineCodec.take_ended.Given as goal

abbrev pub invariant-loop-rest : goal.invariant-loop-rest
invariant-loop-rest g l = record {
  served : ServesPiece l.fn.self.doer.drains (l.fn.self.unended.items ++ l.piece) (l.self.unended.items ++ drop l.count l.piece)
      l.fn.self.count l.self.count l.fn.kept.device.value l.kept.device.value l.fn.answer.items l.answer.items;
  ready : IsReady l.self;
  drains : l.self.doer.drains ≡ l.fn.self.doer.drains;
  within : l.count ≤ length l.piece;
  some : l.count ≡ 0 → l.answer.items ≡ l.fn.answer.items;
  kept : g.S.Store.keeps l.kept.device.value (g.S.Store.waits l.kept.events) (g.S.Store.disk l.kept.events);
  same : g.S.Store.disk l.kept.events ≡ g.S.Store.disk l.fn.kept.events;
}

abbrev pub decreases-loop-rest : goal.decreases-loop-rest
decreases-loop-rest g l = length l.piece - l.count
