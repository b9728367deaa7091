use Rattle.std.proofs.Common.{◌≡◌, ◌≤◌, ◌-◌, length}
use Rattle.durable_machine.specs.Bases.{NeedsBytes}
use Rattle.durable_machine.proofs.finding.read_needed.Given as goal

abbrev pub invariant-base : goal.invariant-base
invariant-base g l =
    let R = g.R.FileReading in record {
      same : l.window.items ≡ R.given l.reading;
      needs : NeedsBytes g.M.Machine.loads l.needed l.window.items;
      size : R.size l.reading ≡ R.size l.fn.reading;
      known : R.known l.reading ≡ R.known l.fn.reading;
      faults : R.faults l.fn.reading ≤ R.faults l.reading;
    }

abbrev pub decreases-base : goal.decreases-base
decreases-base g l = g.R.FileReading.size l.reading - length (g.R.FileReading.given l.reading)
