use Rattle.ebpf_link.proofs.Disjoint.{turned}
use Rattle.ebpf_link.proofs.sums.are_operands_apart.Goals as goal

pub returns : goal.returns
returns c = λ is x y hx hy. turned x y (c.are_apart-2.ensures is y x hy hx)
