use Rattle.std.proofs.Common.{◌≡◌, length}
use Rattle.question_words.specs.Condition.{said}
use Rattle.question_words.specs.Reading.{settled}
use Rattle.question_words.specs.steps.Views.{opens}
use Rattle.question_words.proofs.stage.settle.Given as goal

abbrev pub invariant-loop-part : goal.invariant-loop-part
invariant-loop-part l = settled (opens l.before.items) (said l.whole) ≡ settled (opens l.fn.before.items) (said l.fn.condition)

abbrev pub decreases-loop-part : goal.decreases-loop-part
decreases-loop-part l = length l.before.items
