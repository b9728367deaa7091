use Rattle.std.proofs.Common.{below_more, sym}
use Rattle.ebpf_object.proofs.search.faulty_symbol.Goals as goal

pub loop-number-preserved : goal.loop-number-preserved
loop-number-preserved c = below_more _ _ c.loop-number.invariant (sym c.in_default.ensures)
