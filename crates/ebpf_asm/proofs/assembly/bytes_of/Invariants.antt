use Rattle.std.proofs.Common.{◌+◌, drop}
use Rattle.ebpf_asm.specs.steps.Labels.{label_in}
use Rattle.ebpf_asm.specs.steps.LineView.{line_views}
use Rattle.ebpf_asm.proofs.Passes.{HasMade}
use Rattle.ebpf_asm.proofs.assembly.bytes_of.Given as goal

abbrev pub invariant-loop-index : goal.invariant-loop-index
invariant-loop-index l = HasMade (drop l.index (line_views l.lines)) (line_views l.lines) (label_in l.labels) (l.index + 1) l.slot l.bytes.items
