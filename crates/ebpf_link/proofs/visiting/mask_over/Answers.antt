use Rattle.std.proofs.Common.{refl, arith}
use Rattle.ebpf_link.proofs.Masks.{cut}
use Rattle.ebpf_link.proofs.visiting.mask_over.Goals as goal
use Rattle.ebpf_link.proofs.visiting.mask_over.Goals.{then-from-most, else-from-most}

pub loop-cut-init : goal.loop-cut-init
loop-cut-init c = (20, omega arith, refl, c.requires)

pub loop-cut-preserved : goal.loop-cut-preserved
loop-cut-preserved c = elim c.if-from-most.branch [
  | then-from-most w ↦ rw w.mask-is (cut c.args.most c.loop-cut.cut (omega arith) (omega arith))
  | else-from-most w ↦ rw w.mask-is c.loop-cut.invariant
]
