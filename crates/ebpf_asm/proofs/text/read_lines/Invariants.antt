use Rattle.std.proofs.Common.{◌≡◌, ◌++◌, length}
use Rattle.ebpf_asm.specs.Assembly.{lines_of}
use Rattle.ebpf_asm.specs.steps.LineView.{line_views}
use Rattle.ebpf_asm.proofs.text.read_lines.Given as goal

abbrev pub invariant-loop-rest : goal.invariant-loop-rest
invariant-loop-rest l = line_views l.lines.items ++ lines_of l.rest ≡ lines_of l.text

abbrev pub decreases-loop-rest : goal.decreases-loop-rest
decreases-loop-rest l = length l.rest
