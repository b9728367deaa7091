use Rattle.std.proofs.Common.{◌≡◌, take}
use Rattle.device_meaning.specs.Judging.{judge_by}
use Rattle.device_meaning.specs.Events.{HasServed}
use Rattle.runner.proofs.device.Device.serve.Given as goal

abbrev pub invariant-loop-index : goal.invariant-loop-index
invariant-loop-index g l = record {
  served : HasServed (judge_by g.D.Domain.operations) (take l.index l.events) l.fn.self l.self (g.O.Out.took l.fn.out l.out);
  refused : g.O.Out.refusals l.out ≡ g.O.Out.refusals l.fn.out;
}
