use Rattle.std.proofs.Common.{◌+◌, ◌-◌, length}
use Rattle.durable_machine.proofs.Salvaging.{AreMore}
use Rattle.durable_machine.proofs.rescue.batches_in.Given as goal

abbrev pub invariant-loop-more : goal.invariant-loop-more
invariant-loop-more l = AreMore l.begin (l.begin + (length l.bytes - length l.rest)) l.found l.rest l.bytes

abbrev pub decreases-loop-more : goal.decreases-loop-more
decreases-loop-more l = length l.rest
