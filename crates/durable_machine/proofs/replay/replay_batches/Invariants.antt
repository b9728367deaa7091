use Rattle.std.proofs.Common.{◌≤◌, ◌+◌, length}
use Rattle.durable_machine.specs.Replay.{AreDone}
use Rattle.durable_machine.proofs.replay.replay_batches.Given as goal

abbrev pub invariant-loop-place : goal.invariant-loop-place
invariant-loop-place g l = AreDone g.M.Machine.next l.begin l.bytes l.rest l.last l.count l.fn.machine l.machine × (l.count + length l.rest ≤ length l.bytes)

abbrev pub decreases-loop-place : goal.decreases-loop-place
decreases-loop-place g l = length l.rest
