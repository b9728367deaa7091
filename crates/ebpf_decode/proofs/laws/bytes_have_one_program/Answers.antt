use Rattle.ebpf_decode.proofs.Programs.{one-program}
use Rattle.ebpf_decode.proofs.laws.bytes_have_one_program.Goals as goal

pub returns : goal.returns
returns c = one-program
