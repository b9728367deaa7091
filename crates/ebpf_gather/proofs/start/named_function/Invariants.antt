use Rattle.std.specs.Prelude.{◌≡◌, None}
use Rattle.ebpf_gather.specs.First.{first_of}
use Rattle.ebpf_gather.specs.Functions.{named_at}
use Rattle.ebpf_gather.proofs.start.named_function.Given as goal

abbrev pub invariant-loop-number : goal.invariant-loop-number
invariant-loop-number l = first_of (named_at l.object.bytes.now l.object.symbols l.name) l.number ≡ None
