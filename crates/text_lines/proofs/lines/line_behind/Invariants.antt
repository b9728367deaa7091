use Rattle.std.proofs.Common.{◌≡◌, length, slice_get}
use Rattle.std.specs.Str.Lines.{lines}
use Rattle.text_lines.proofs.lines.line_behind.Given as goal

abbrev pub invariant-loop-rest : goal.invariant-loop-rest
invariant-loop-rest l = slice_get (lines l.text) l.fn.lines ≡ slice_get (lines l.rest) l.before

abbrev pub decreases-loop-rest : goal.decreases-loop-rest
decreases-loop-rest l = length l.rest
