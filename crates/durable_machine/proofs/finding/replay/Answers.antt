use Rattle.std.proofs.Common.{rules, ◌<◌, length}
use Rattle.durable_machine.specs.Journal.{BeginsClosed, IsEnd}
use Rattle.durable_machine.proofs.Wholes.{damaged_read, found_read}
use Rattle.durable_machine.proofs.finding.replay.Goals as goal

pub returns-then-not-is_end-clause-refused : goal.returns-then-not-is_end-clause-refused
returns-then-not-is_end-clause-refused g c =
    let R = g.R.FileReading in
    let reading = c.replay_front.new.reading in
    let window = c.replay_front.new.window.items in
    let found = c.in_ok-found.found in
    let begun = c.in_ok-found.ensures in
    let further : (BeginsClosed window → ⊥) × (4096 < length window) = search rules in
    damaged_read g.M.Machine.loads g.M.Machine.next (R.size reading) (R.given reading) g.met.M.Machine.one_base window found.end found.last found.count found.machine begun.begun begun.after begun.enough
    further.0 further.1

pub returns-clause-found : goal.returns-clause-found
returns-clause-found g c =
    let R = g.R.FileReading in
    let reading = c.replay_front.new.reading in
    let window = c.replay_front.new.window.items in
    let found = c.in_ok-found.found in
    let begun = c.in_ok-found.ensures in
    let over : IsEnd window = search rules in
    found_read g.M.Machine.loads g.M.Machine.next (R.size reading) (R.given reading) g.met.M.Machine.one_base window found.end found.last found.count found.machine begun.begun begun.after begun.enough
    found.gate.items begun.gate over
