use Rattle.std.proofs.Common.{List, ℕ, length}
use Rattle.durable_machine.proofs.FirstEvents.{AreFirst}
use Rattle.durable_machine.proofs.journal_reading.events_length.Given as goal

abbrev pub invariant-loop-behind : goal.invariant-loop-behind
invariant-loop-behind l = (events : List (List ℕ)) × AreFirst events l.rest l.bytes

abbrev pub decreases-loop-behind : goal.decreases-loop-behind
decreases-loop-behind l = length l.rest
