use Rattle.std.proofs.Common.{refl, Option, Some, List, ℕ, ◌∙◌, subst, take, length}
use Rattle.stored_file.specs.Reading.{IsReadOf, front_read}
use Rattle.durable_machine.specs.Pieces.{IsFound}
use Rattle.durable_machine.specs.Refused.{IsRefused}
use Rattle.durable_machine.proofs.Windows.{all_known}
use Rattle.durable_machine.proofs.Wholes.{refused_read}
use Rattle.durable_machine.proofs.Refusing.{refuses}
use Rattle.durable_machine.proofs.Restarting.{no_moment, read_only, same_file, untouched}
use Rattle.durable_machine.proofs.opening.Durable.open_read.Goals as goal

pub open_found-requires-clause-found : goal.open_found-requires-clause-found
open_found-requires-clause-found g c =
    let loads = g.M.Machine.loads in
    let next = g.M.Machine.next in
    let reading = c.find.new.reading in
    let found = c.in-Ok.found in
    let given = take reading.at reading.bytes.now in
    let size = length reading.bytes.now in
    let known : IsReadOf given size (Some c.args.bytes.now) = subst (λ (file : Option (List ℕ)). IsReadOf given size file) (c.find.ensures.known ∙ c.new.ensures.known) (front_read reading.at reading.bytes.now reading.within) in
    let same = all_known size given c.args.bytes.now c.in-Ok.ensures.whole known in
    subst (λ (file : List ℕ). IsFound loads next found.end found.last found.gate.items file found.machine) (same ∙ c.requires.read) c.in-Ok.ensures.found

pub returns-in-Err-clause-any_moment_err : goal.returns-in-Err-clause-any_moment_err
returns-in-Err-clause-any_moment_err g c =
    let loads = g.M.Machine.loads in
    let next = g.M.Machine.next in
    let one = g.met.M.Machine.one_base in
    read_only loads next one (g.F.StoredFile.told c.args.file) (g.F.StoredFile.told c.args.file) (same_file loads next one _) (no_moment loads next one _) c.requires.restarted

pub returns-in-Err-clause-refused : goal.returns-in-Err-clause-refused
returns-in-Err-clause-refused g c =
    let loads = g.M.Machine.loads in
    let next = g.M.Machine.next in
    let one = g.met.M.Machine.one_base in
    let old = g.F.StoredFile.told c.args.file in
    let reading = c.find.new.reading in
    let given = take reading.at reading.bytes.now in
    let size = length reading.bytes.now in
    let known : IsReadOf given size (Some c.args.bytes.now) = subst (λ (file : Option (List ℕ)). IsReadOf given size file) (c.find.ensures.known ∙ c.new.ensures.known) (front_read reading.at reading.bytes.now reading.within) in
    let refused : IsRefused loads next old.seen c.in-Err.fault =
    subst (λ (file : List ℕ). IsRefused loads next file c.in-Err.fault) c.requires.read (refused_read loads next size given c.args.bytes.now 0 c.in-Err.fault c.in-Err.ensures.refused known) in
    refuses loads next old old c.in-Err.fault refl refused (untouched loads next one old old (same_file loads next one old) (no_moment loads next one old) c.requires.restarted)
