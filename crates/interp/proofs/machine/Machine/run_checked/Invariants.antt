use Rattle.interp.proofs.Running.{IsRunning}
use Rattle.interp.proofs.machine.Machine.run_checked.Given as goal

abbrev pub invariant-steps : goal.invariant-steps
invariant-steps l = IsRunning l.program l.limit l.fuel l.initial.self l.initial.group l.step l.slot l.self l.group
