use Rattle.std.proofs.Common.{arith}
use Rattle.device_events.proofs.completion_entry.read_back.Goals as goal

pub returns : goal.returns
returns c = (c.completions_tell.ensures _ (record {
  dw0 = omega (arith, c.ranges.dw0);
  dw1 = omega (arith, c.ranges.dw1);
  queue = omega (arith, c.ranges.queue);
  cid = omega (arith, c.ranges.cid);
  code = omega (arith, c.ranges.code);
})).1
