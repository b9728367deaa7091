use Rattle.std.proofs.Common.{length}
use Rattle.record_questions.proofs.check.+emitted_bytes.Given as goal

abbrev pub decreases-emitted_bytes : goal.decreases-emitted_bytes
decreases-emitted_bytes l = length l.ranges.now
