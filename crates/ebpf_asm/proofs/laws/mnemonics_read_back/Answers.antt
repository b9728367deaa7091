use Rattle.ebpf_asm.proofs.Names.{mnemonic_again}
use Rattle.ebpf_asm.proofs.laws.mnemonics_read_back.Goals as goal

pub returns : goal.returns
returns c = mnemonic_again
