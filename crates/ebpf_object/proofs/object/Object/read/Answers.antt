use Rattle.ebpf_object.proofs.Apart.{are_apart}
use Rattle.ebpf_object.proofs.object.Object.read.Goals as goal

pub returns-clause-apart : goal.returns-clause-apart
returns-clause-apart c = are_apart c.args.bytes.now c.in_ok-symbols.symbols c.in_ok-checked_relocations.ensures
