use Rattle.runner.specs.steps.RunsAgain.{AreGoing}
use Rattle.runner.proofs.runs_again.runs_again.Given as goal

abbrev pub invariant-loop-k : goal.invariant-loop-k
invariant-loop-k g l = AreGoing l.namespace l.slots l.kept l.runs l.k
