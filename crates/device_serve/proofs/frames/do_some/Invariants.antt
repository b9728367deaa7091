use Rattle.std.proofs.Common.{◌≡◌, ◌≤◌, ◌-◌, length, take}
use Rattle.device_serve.specs.FrameStream.{Does, IsReady, reader}
use Rattle.device_serve.proofs.frames.do_some.Given as goal

abbrev pub invariant-loop-taken : goal.invariant-loop-taken
invariant-loop-taken g l = record {
  done : Does g.K.Keep.has_kept g.K.Keep.becomes
      (reader l.fn.codec.session l.fn.codec.turns l.fn.codec.ends_runs l.fn.codec.keeper) l.fn.kept.device.value l.fn.answer.items
      (take l.taken l.piece)
      (reader l.codec.session l.codec.turns l.codec.ends_runs l.codec.keeper) l.kept.device.value l.answer.items;
  within : l.taken ≤ length l.piece;
  some : (l.taken ≡ 0) → l.answer.items ≡ l.fn.answer.items;
  ready : IsReady g.K.Keep.is_ready (reader l.codec.session l.codec.turns l.codec.ends_runs l.codec.keeper) l.codec.output.items;
  kept : g.S.Store.keeps l.kept.device.value (g.S.Store.waits l.kept.events) (g.S.Store.disk l.kept.events);
  same : g.S.Store.disk l.kept.events ≡ g.S.Store.disk l.fn.kept.events;
}

abbrev pub decreases-loop-taken : goal.decreases-loop-taken
decreases-loop-taken g l = length l.piece - l.taken
