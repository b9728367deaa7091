use Rattle.std.proofs.Common.{length}
use Rattle.record_questions.proofs.chunks.+chunks_slots.Given as goal

abbrev pub decreases-chunks_slots : goal.decreases-chunks_slots
decreases-chunks_slots l = length l.bytes.now
