use Rattle.std.proofs.Common.{Option, Some, List, ℕ, ◌∙◌, subst, take, length}
use Rattle.std.proofs.lemmas.Result.{err_from_is_err_and}
use Rattle.stored_file.specs.Reading.{IsReadOf, front_read}
use Rattle.durable_machine.specs.Salvage.{HasBegun}
use Rattle.durable_machine.proofs.ReadFrames.{rest_of}
use Rattle.durable_machine.proofs.Replaying.{left}
use Rattle.durable_machine.proofs.Salvaging.{is_salvaged}
use Rattle.durable_machine.proofs.Windows.{of_known}
use Rattle.durable_machine.proofs.Wholes.{refused_known}
use Rattle.durable_machine.proofs.rescue.salvage.Goals as goal

pub returns-clause-saved : goal.returns-clause-saved
returns-clause-saved g c =
    let loads = g.M.Machine.loads in
    let next = g.M.Machine.next in
    let file = c.args.file.now in
    let found = c.in_ok-found.found in
    let reading = c.replay_front.new.reading in
    let given = take reading.at reading.bytes.now in
    let size = length reading.bytes.now in
    let known : IsReadOf given size (Some file) = subst (λ (all : Option (List ℕ)). IsReadOf given size all) (c.replay_front.ensures.known ∙ c.new-reading.ensures.known) (front_read reading.at reading.bytes.now reading.within) in
    let begun = of_known size (λ (all : List ℕ). HasBegun loads next found.end found.last found.count all found.machine) given file c.in_ok-found.ensures.begun known in
    let later = c.batches_in-readable.ensures in
    is_salvaged loads next found.end found.last found.count _ file _ found.machine begun
    (rest_of found.end file ∙ left next loads file found.end found.last found.count found.machine begun) later.0 later.1 later.2

pub returns-in_err-found-clause-refused : goal.returns-in_err-found-clause-refused
returns-in_err-found-clause-refused g c =
    let file = c.args.file.now in
    let reading = c.replay_front.new.reading in
    let given = take reading.at reading.bytes.now in
    let size = length reading.bytes.now in
    let known : IsReadOf given size (Some file) = subst (λ (all : Option (List ℕ)). IsReadOf given size all) (c.replay_front.ensures.known ∙ c.new-reading.ensures.known) (front_read reading.at reading.bytes.now reading.within) in
    let p = err_from_is_err_and c.from_residual.result c.from_residual.ensures.1 in
    rw (p.1, p.2) (refused_known g.M.Machine.loads g.M.Machine.next size given file 0 c.in_err-found.field-0.0 c.in_err-found.ensures.refused known)
