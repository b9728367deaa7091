use Rattle.image_base.proofs.Needing.{IsPast}
use Rattle.image_base.proofs.length.events_length.Given as goal

abbrev pub invariant-loop-done : goal.invariant-loop-done
invariant-loop-done l = IsPast l.count l.done l.at l.bytes
