use Rattle.std.proofs.Common.{◌≡◌, ◌++◌}
use Rattle.ebpf_inline.specs.Data.{first_ones, store_word}
use Rattle.ebpf_inline.proofs.data.push_data.Given as goal

abbrev pub invariant-loop-word : goal.invariant-loop-word
invariant-loop-word l = l.into.items ≡ l.initial.into.items ++ first_ones (store_word l.bytes) l.word
