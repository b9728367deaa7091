use Rattle.std.proofs.Common.{◌≡◌, ◌≤◌, length}
use Rattle.question_words.specs.Cutting.{cuts}
use Rattle.question_words.specs.Layout.{entries}
use Rattle.question_words.specs.Reading.{at_start, read_words}
use Rattle.question_words.specs.steps.Views.{reading_view}
use Rattle.question_words.proofs.reading.read_text.Given as goal

abbrev pub invariant-loop-rest : goal.invariant-loop-rest
invariant-loop-rest l = record {
  within : length l.rest ≤ length l.text;
  same : read_words (entries l.layout) (length l.text) (cuts l.rest) (reading_view l.reading) ≡ read_words (entries l.layout) (length l.text) (cuts l.text) at_start;
}

abbrev pub decreases-loop-rest : goal.decreases-loop-rest
decreases-loop-rest l = length l.rest
