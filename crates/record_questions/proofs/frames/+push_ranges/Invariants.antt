use Rattle.std.proofs.Common.{length}
use Rattle.record_questions.proofs.frames.+push_ranges.Given as goal

abbrev pub decreases-push_ranges : goal.decreases-push_ranges
decreases-push_ranges l = length l.ranges.now
