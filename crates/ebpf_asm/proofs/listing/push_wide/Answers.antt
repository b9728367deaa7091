use Rattle.std.proofs.Common.{rules}
use Rattle.std.specs.Fmt.{padded_integral, char_count}
use Rattle.ebpf_asm.proofs.listing.push_wide.Goals as goal

pub returns : goal.returns
unfolding padded_integral char_count
returns c = search rules
