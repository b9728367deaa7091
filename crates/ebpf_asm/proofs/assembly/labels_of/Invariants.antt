use Rattle.std.proofs.Common.{take, drop}
use Rattle.ebpf_asm.specs.steps.Labels.{label_in}
use Rattle.ebpf_asm.specs.steps.LineView.{line_views}
use Rattle.ebpf_asm.proofs.Passes.{HasRead}
use Rattle.ebpf_asm.proofs.assembly.labels_of.Given as goal

abbrev pub invariant-loop-index : goal.invariant-loop-index
invariant-loop-index l = HasRead (take l.index (line_views l.lines)) (drop l.index (line_views l.lines)) (line_views l.lines) (label_in l.labels) l.slots
