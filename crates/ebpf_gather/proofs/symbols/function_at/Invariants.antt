use Rattle.std.specs.Prelude.{◌≡◌, None}
use Rattle.ebpf_gather.specs.First.{first_of}
use Rattle.ebpf_gather.specs.Functions.{function_numbered}
use Rattle.ebpf_gather.proofs.symbols.function_at.Given as goal

abbrev pub invariant-loop-number : goal.invariant-loop-number
invariant-loop-number l = first_of (function_numbered l.object.bytes.now l.object.symbols l.section l.byte) l.number ≡ None
