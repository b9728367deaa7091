use Rattle.ebpf_link.proofs.EndLemmas.{silent_guards_have_their_ends}
use Rattle.ebpf_link.proofs.laws.silent_guards_have_their_ends.Goals as goal

pub returns : goal.returns
returns c = silent_guards_have_their_ends
