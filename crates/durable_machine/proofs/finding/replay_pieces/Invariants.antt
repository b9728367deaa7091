use Rattle.std.proofs.Common.{◌≡◌, ◌≤◌, ◌+◌, ◌-◌, List, ℕ, ◌++◌, length}
use Rattle.durable_machine.specs.Pieces.{AreReadDone}
use Rattle.durable_machine.proofs.finding.replay_pieces.Given as goal

abbrev pub invariant-pieces : goal.invariant-pieces
invariant-pieces g l =
    let R = g.R.FileReading in record {
      so_far : AreReadDone g.M.Machine.next l.begin (R.given l.reading) l.window.items l.done.end l.done.last l.done.count l.done.gate.items l.fn.machine l.machine;
      size : R.size l.reading ≡ R.size l.fn.reading;
      known : R.known l.reading ≡ R.known l.fn.reading;
      faults : R.faults l.fn.reading ≤ R.faults l.reading;
      counted : l.done.count ≤ l.done.end;
      read : (more : List ℕ) × (R.given l.reading ≡ R.given l.fn.reading ++ more);
    }

abbrev pub decreases-pieces : goal.decreases-pieces
decreases-pieces g l = (g.R.FileReading.size l.reading - length (g.R.FileReading.given l.reading)) + length l.window.items
