use Rattle.std.proofs.Common.{length}
use Rattle.record_questions.proofs.chunks.+push_chunks.Given as goal

abbrev pub decreases-push_chunks : goal.decreases-push_chunks
decreases-push_chunks l = length l.bytes.now
