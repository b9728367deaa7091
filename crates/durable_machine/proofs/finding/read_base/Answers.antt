use Rattle.std.proofs.Common.{rules, ◌≡◌, ◌∙◌}
use Rattle.durable_machine.proofs.Windows.{loaded_begins, loaded_within}
use Rattle.durable_machine.proofs.finding.read_base.Goals as goal

pub returns-clause-base : goal.returns-clause-base
returns-clause-base g c =
    let R = g.R.FileReading in
    let reading = c.read_needed.new.reading in
    let window : c.deref.result.now ≡ c.read_needed.new.window.items = search rules in
    loaded_begins g.M.Machine.loads (R.size reading) (R.given reading) c.deref.result.now c.in_ok-found.found (window ∙ c.in_ok-read_needed.ensures.same) c.in_ok-read_needed.ensures.base c.in_ok-found.ensures

pub returns-clause-within : goal.returns-clause-within
returns-clause-within g c =
    let R = g.R.FileReading in
    let window : c.deref.result.now ≡ c.read_needed.new.window.items = search rules in
    loaded_within g.M.Machine.loads (R.given c.read_needed.new.reading) c.deref.result.now c.in_ok-found.found (window ∙ c.in_ok-read_needed.ensures.same) c.in_ok-found.ensures
