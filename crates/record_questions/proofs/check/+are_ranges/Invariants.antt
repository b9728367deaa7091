use Rattle.std.proofs.Common.{length}
use Rattle.record_questions.proofs.check.+are_ranges.Given as goal

abbrev pub decreases-are_ranges : goal.decreases-are_ranges
decreases-are_ranges l = length l.ranges.now
