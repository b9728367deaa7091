use Rattle.ebpf_asm.proofs.Programs.{assembled_is_program}
use Rattle.ebpf_asm.proofs.laws.assembled_is_program.Goals as goal

pub returns : goal.returns
returns c = assembled_is_program
