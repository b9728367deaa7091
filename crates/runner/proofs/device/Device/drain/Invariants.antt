use Rattle.std.proofs.Common.{◌≡◌, ◌≤◌, ◌*◌, ◌⊎◌}
use Rattle.nvme_entry.specs.declared.command.TheConstants.{MOST_BLOCKS}
use Rattle.zone_resources.specs.declared.holds.TheConstants.{RUNS}
use Rattle.device_meaning.specs.Draining.{turns_left}
use Rattle.runner.proofs.Drains.{IsDraining}
use Rattle.runner.proofs.device.Device.drain.Given as goal

abbrev pub invariant-loop-run : goal.invariant-loop-run
invariant-loop-run g l = record {
  draining : IsDraining l.fn.self l.self (g.O.Out.took l.fn.out l.out) l.done;
  few : (l.done ≡ 0) ⊎ (turns_left l.fn.self.places ≤ MOST_BLOCKS * RUNS);
  refused : g.O.Out.refusals l.out ≡ g.O.Out.refusals l.fn.out;
}

abbrev pub decreases-loop-run : goal.decreases-loop-run
decreases-loop-run g l = turns_left l.self.places
