use Rattle.std.proofs.Common.{◌≡◌, map}
use Rattle.ebpf_inline.specs.Data.{data_begin}
use Rattle.ebpf_inline.proofs.data.data_begin.Given as goal

abbrev pub invariant-loop-number : goal.invariant-loop-number
invariant-loop-number l = l.begin ≡ data_begin (map (λ section. section.items) l.sections) l.number
