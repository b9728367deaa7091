use Rattle.record_questions.proofs.frames.+copies_slots.Given as goal

abbrev pub decreases-copies_slots : goal.decreases-copies_slots
decreases-copies_slots l = l.count
