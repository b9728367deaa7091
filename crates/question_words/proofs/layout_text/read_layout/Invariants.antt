use Rattle.std.proofs.Common.{◌≡◌, ◌+◌, ◌≤◌, length}
use Rattle.std.specs.Str.Lines.{lines}
use Rattle.question_words.specs.Layout.{entries}
use Rattle.question_words.specs.LayoutText.{layout_of, with_lines}
use Rattle.question_words.proofs.layout_text.read_layout.Given as goal

abbrev pub invariant-loop-rest : goal.invariant-loop-rest
invariant-loop-rest l = record {
  few : l.number + length l.rest ≤ length l.text;
  same : with_lines (entries l.layout) l.number (lines l.rest) ≡ layout_of l.text;
}

abbrev pub decreases-loop-rest : goal.decreases-loop-rest
decreases-loop-rest l = length l.rest
