use Rattle.ebpf_link.specs.Masks.{IsMaskOver}
use Rattle.ebpf_link.proofs.visiting.mask_over.Given as goal

abbrev pub invariant-loop-cut : goal.invariant-loop-cut
invariant-loop-cut l = IsMaskOver l.most l.mask
