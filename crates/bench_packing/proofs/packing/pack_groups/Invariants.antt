use Rattle.std.proofs.Common.{◌≡◌, ◌≤◌, length}
use Rattle.bench_packing.proofs.packing.pack_groups.Given as goal

abbrev pub invariant-loop-rest : goal.invariant-loop-rest
invariant-loop-rest l = (l.packer.block ≡ 4096) × (l.filled ≤ length l.target)

abbrev pub decreases-loop-rest : goal.decreases-loop-rest
decreases-loop-rest l = length l.rest
