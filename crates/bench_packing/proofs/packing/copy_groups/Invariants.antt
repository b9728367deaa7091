use Rattle.std.proofs.Common.{◌-◌, ◌≤◌, length}
use Rattle.bench_packing.proofs.packing.copy_groups.Given as goal

abbrev pub invariant-loop-copied : goal.invariant-loop-copied
invariant-loop-copied l = (l.copied ≤ length l.bytes) × (l.copied ≤ length l.target)

abbrev pub decreases-loop-copied : goal.decreases-loop-copied
decreases-loop-copied l = length l.bytes - l.copied
