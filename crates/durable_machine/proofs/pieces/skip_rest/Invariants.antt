use Rattle.std.proofs.Common.{◌≡◌, ◌≤◌, ◌-◌, ◌++◌, List, ℕ, length}
use Rattle.durable_machine.proofs.pieces.skip_rest.Given as goal

abbrev pub invariant-loop-window : goal.invariant-loop-window
invariant-loop-window g l =
    let R = g.R.FileReading in record {
      read : (rest : List ℕ) × (R.given l.reading ≡ R.given l.fn.reading ++ rest);
      size : R.size l.reading ≡ R.size l.fn.reading;
      known : R.known l.reading ≡ R.known l.fn.reading;
      faults : R.faults l.fn.reading ≤ R.faults l.reading;
    }

abbrev pub decreases-loop-window : goal.decreases-loop-window
decreases-loop-window g l = g.R.FileReading.size l.reading - length (g.R.FileReading.given l.reading)
