use Rattle.std.proofs.Common.{ℕ, ◌<◌, ◌+◌, ◌*◌}
use Rattle.ebpf_link.specs.Marks.{IsPlace}
use Rattle.ebpf_link.proofs.marks.last_place.Given as goal

abbrev pub invariant-loop-back : goal.invariant-loop-back
invariant-loop-back l = (at : ℕ) → IsPlace l.stored at → at + 8 * l.back < 1024
