use Rattle.std.proofs.Common.{◌≡◌, length}
use Rattle.text_lines.specs.Cut.{without_end_blanks}
use Rattle.text_lines.proofs.cutting.trim_end.Given as goal

abbrev pub invariant-loop-inside : goal.invariant-loop-inside
invariant-loop-inside l = without_end_blanks l.inside ≡ without_end_blanks l.text

abbrev pub decreases-loop-inside : goal.decreases-loop-inside
decreases-loop-inside l = length l.inside
