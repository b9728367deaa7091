use Rattle.runner.specs.steps.LoadingAgain.{AreAgain}
use Rattle.runner.proofs.kept_slots.slots_again.Given as goal

abbrev pub invariant-loop-k : goal.invariant-loop-k
invariant-loop-k g l = AreAgain l.block l.kept l.slots l.k
