use Rattle.ebpf_decode.proofs.Programs.{decoded-program}
use Rattle.ebpf_decode.proofs.laws.decoded_is_spelled.Goals as goal

pub returns : goal.returns
returns c = decoded-program
