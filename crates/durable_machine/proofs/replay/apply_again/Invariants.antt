use Rattle.std.proofs.Common.{length}
use Rattle.durable_machine.proofs.Replaying.{AreAgain}
use Rattle.durable_machine.proofs.replay.apply_again.Given as goal

abbrev pub invariant-loop-event : goal.invariant-loop-event
invariant-loop-event g l = AreAgain g.M.Machine.next l.bytes l.rest l.fn.machine l.machine

abbrev pub decreases-loop-event : goal.decreases-loop-event
decreases-loop-event g l = length l.rest
