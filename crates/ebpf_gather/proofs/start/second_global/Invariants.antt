use Rattle.std.specs.Prelude.{◌≡◌, None}
use Rattle.ebpf_gather.specs.First.{first_of}
use Rattle.ebpf_gather.specs.Functions.{other_global}
use Rattle.ebpf_gather.proofs.start.second_global.Given as goal

abbrev pub invariant-loop-number : goal.invariant-loop-number
invariant-loop-number l = first_of (other_global l.object.bytes.now l.object.symbols l.first) l.number ≡ None
