use Rattle.std.proofs.Common.{rules}
use Rattle.ebpf_link.proofs.Masks.{idle}
use Rattle.ebpf_link.proofs.visiting.idle_mask.Goals as goal

pub returns : goal.returns
returns c =
    rw c.in-Arithmetic.is
    (idle c.args.known.now.facts c.in-Arithmetic.width c.in-Arithmetic.operation c.in-Arithmetic.dst c.in-Arithmetic.source
    c.bounds-first.result c.bounds-second.result c.mask_over.result (cc) (cc) (c.adds_no_bits.ensures (search rules)) c.mask_over.ensures)
