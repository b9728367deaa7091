use Rattle.record_questions.proofs.frames.+push_copies.Given as goal

abbrev pub decreases-push_copies : goal.decreases-push_copies
decreases-push_copies l = l.count
