use Rattle.std.specs.Prelude.{◌≡◌, None}
use Rattle.ebpf_gather.specs.First.{first_of}
use Rattle.ebpf_gather.specs.Functions.{global_at}
use Rattle.ebpf_gather.proofs.start.first_global.Given as goal

abbrev pub invariant-loop-number : goal.invariant-loop-number
invariant-loop-number l = first_of (global_at l.object.bytes.now l.object.symbols) l.number ≡ None
