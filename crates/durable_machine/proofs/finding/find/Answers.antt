use Rattle.std.proofs.Common.{rules, ◌≡◌, ℕ, List, length, sym, ◌∙◌, subst}
use Rattle.std.specs.Prelude.{IfOk, IfErr, Result}
use Rattle.durable_machine.specs.declared.fault.Fault.{Fault}
use Rattle.durable_machine.specs.declared.finding.Found.{Found}
use Rattle.durable_machine.specs.Pieces.{HoldsOfWhole, IsFound, IsRefusedSoFar, IsRefusedWhole}
use Rattle.durable_machine.proofs.Windows.{whole_later, whole_now}
use Rattle.durable_machine.proofs.Restarting.{err_so, ok_so}
use Rattle.durable_machine.proofs.Wholes.{refused_whole}
use Rattle.durable_machine.proofs.finding.find.Goals as goal

pub returns-clause-found : goal.returns-clause-found
returns-clause-found g c =
    let loads = g.M.Machine.loads in
    let next = g.M.Machine.next in
    let R = g.R.FileReading in
    let first = c.replay.new.reading in
    let reading = c.skip_rest.new.reading in
    let rest = c.skip_rest.ensures.read in
    let whole : length (R.given reading) ≡ R.size first = c.in_ok-skip_rest-in_default.ensures.whole ∙ c.skip_rest.ensures.size in
    let so : (r : Result (Found g.row.M.Denot) Fault) → r ≡ c.replay.result → IfOk r (λ found. IsFound loads next found.end found.last found.gate.items (R.given reading) found.machine) =
    λ r same. rw same (ok_so c.replay.result (λ found. HoldsOfWhole (R.size first) (R.given first) (λ (file : List ℕ). IsFound loads next found.end found.last found.gate.items file found.machine))
    (λ found. IsFound loads next found.end found.last found.gate.items (R.given reading) found.machine) c.replay.ensures.found
    (λ found holds.
    let P = λ (file : List ℕ). IsFound loads next found.end found.last found.gate.items file found.machine in
    whole_now (R.size first) P (R.given reading) (whole_later (R.size first) P (R.given first) rest.0 (R.given reading) holds rest.1) whole)) in
    so _ (search rules)

pub returns-clause-refused : goal.returns-clause-refused
returns-clause-refused g c =
    let loads = g.M.Machine.loads in
    let next = g.M.Machine.next in
    let R = g.R.FileReading in
    let first = c.replay.new.reading in
    let reading = c.skip_rest.new.reading in
    let rest = c.skip_rest.ensures.read in
    let size = c.skip_rest.ensures.size in
    let so : (r : Result (Found g.row.M.Denot) Fault) → r ≡ c.replay.result → IfErr r (IsRefusedWhole loads next (R.size reading) (R.given reading) (R.faults c.args.reading.now) (R.faults reading)) =
    λ r same. rw same (err_so c.replay.result (IsRefusedSoFar loads next (R.size first) (R.given first) (R.faults c.args.reading.now) (R.faults first))
    (IsRefusedWhole loads next (R.size reading) (R.given reading) (R.faults c.args.reading.now) (R.faults reading)) c.replay.ensures.refused
    (λ fault refused.
    refused_whole loads next (R.size reading) (R.given first) rest.0 (R.given reading) (R.faults c.args.reading.now) (R.faults first) (R.faults reading) fault
    (subst (λ (n : ℕ). IsRefusedSoFar loads next n (R.given first) (R.faults c.args.reading.now) (R.faults first) fault) (sym size) refused)
    rest.1 c.in_ok-skip_rest-in_default.ensures.whole c.skip_rest.ensures.cause.later)) in
    so _ (search rules)
