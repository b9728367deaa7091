use Rattle.std.proofs.Common.{length}
use Rattle.record_questions.proofs.frames.+ranges_slots.Given as goal

abbrev pub decreases-ranges_slots : goal.decreases-ranges_slots
decreases-ranges_slots l = length l.ranges.now
