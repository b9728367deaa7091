use Rattle.ebpf_decode.proofs.Programs.{program-again}
use Rattle.ebpf_decode.proofs.laws.spelled_is_decoded.Goals as goal

pub returns : goal.returns
returns c = program-again
