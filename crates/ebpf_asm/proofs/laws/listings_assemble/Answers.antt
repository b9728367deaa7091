use Rattle.ebpf_asm.proofs.ListingsAssemble.{listing_again}
use Rattle.ebpf_asm.proofs.laws.listings_assemble.Goals as goal

pub returns : goal.returns
returns c = listing_again
