use Rattle.stored_file.proofs.Changes.{left_now, elapses}
use Rattle.stored_file.proofs.tearing_file.TearingFileStoredFile.set_len.Goals as goal

pub returns-clause-time : goal.returns-clause-time
returns-clause-time c = elapses _ _ _ _ c.in_ok-push.ensures.items _ _

pub returns-clause-crash : goal.returns-clause-crash
returns-clause-crash c = λ file left. left_now _ _ _ _ c.in_ok-push.ensures.items file left
