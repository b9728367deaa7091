use Rattle.std.proofs.Common.{◌≡◌, length}
use Rattle.bench_packing.proofs.bytes.Given as goal

abbrev pub invariant-loop-i : goal.invariant-loop-i
invariant-loop-i l = length l.bytes.items ≡ l.i
