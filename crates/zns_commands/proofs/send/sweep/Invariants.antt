use Rattle.std.proofs.Common.{◌≡◌, length}
use Rattle.zns_commands.proofs.Sweeps.{swept_below}
use Rattle.zns_commands.proofs.send.sweep.Given as goal

abbrev pub invariant-loop-zone : goal.invariant-loop-zone
invariant-loop-zone l = record {
  swept : l.image ≡ swept_below l.fn.image l.action l.zone;
  count : l.zones ≡ length l.fn.image.zones;
}
