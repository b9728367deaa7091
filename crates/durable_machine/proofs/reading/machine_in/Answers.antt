use Rattle.std.proofs.Common.{Option, Some, List, ℕ, ◌∙◌, subst, take, length}
use Rattle.std.proofs.lemmas.Result.{err_from_is_err_and}
use Rattle.stored_file.specs.Reading.{IsReadOf, front_read}
use Rattle.durable_machine.specs.Pieces.{IsFound}
use Rattle.durable_machine.proofs.Files.{one_state}
use Rattle.durable_machine.proofs.Windows.{all_known}
use Rattle.durable_machine.proofs.Wholes.{refused_read}
use Rattle.durable_machine.proofs.reading.machine_in.Goals as goal

pub returns-clause-state : goal.returns-clause-state
returns-clause-state g c =
    let loads = g.M.Machine.loads in
    let next = g.M.Machine.next in
    let file = c.args.file.now in
    let found = c.in_ok-found.found in
    let reading = c.find.new.reading in
    let given = take reading.at reading.bytes.now in
    let size = length reading.bytes.now in
    let known : IsReadOf given size (Some file) = subst (λ (all : Option (List ℕ)). IsReadOf given size all) (c.find.ensures.known ∙ c.new.ensures.known) (front_read reading.at reading.bytes.now reading.within) in
    let is = subst (λ (all : List ℕ). IsFound loads next found.end found.last found.gate.items all found.machine) (all_known size given file c.in_ok-found.ensures.whole known) c.in_ok-found.ensures.found in
    record {
      is = (_, is.is.is);
      no_other = λ other other_is. one_state loads next g.met.M.Machine.one_base _ _ other (_, is.is.is) other_is;
    }

pub returns-in_err-found-clause-refused : goal.returns-in_err-found-clause-refused
returns-in_err-found-clause-refused g c =
    let file = c.args.file.now in
    let reading = c.find.new.reading in
    let given = take reading.at reading.bytes.now in
    let size = length reading.bytes.now in
    let known : IsReadOf given size (Some file) = subst (λ (all : Option (List ℕ)). IsReadOf given size all) (c.find.ensures.known ∙ c.new.ensures.known) (front_read reading.at reading.bytes.now reading.within) in
    let p = err_from_is_err_and c.from_residual.result c.from_residual.ensures.1 in
    rw (p.1, p.2) (refused_read g.M.Machine.loads g.M.Machine.next size given file 0 c.in_err-found.field-0.0 c.in_err-found.ensures.refused known)
