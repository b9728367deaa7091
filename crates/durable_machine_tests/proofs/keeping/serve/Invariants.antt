use Rattle.durable_machine_tests.specs.Kept.{IsKept}
use Rattle.durable_machine_tests.proofs.keeping.serve.Given as goal

abbrev pub invariant-loop-event : goal.invariant-loop-event
invariant-loop-event l = IsKept l.store
