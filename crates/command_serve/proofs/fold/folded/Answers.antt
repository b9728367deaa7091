use Rattle.std.proofs.Common.{subst, sym}
use Rattle.stored_file.specs.File.{LeavesOnly}
use Rattle.device_meaning.specs.State.{State}
use Rattle.durable_device.specs.Kept.{StandsFor}
use Rattle.command_serve.proofs.Openings.{unfolded}
use Rattle.command_serve.proofs.fold.folded.Goals as goal

pub returns-clause-failed : goal.returns-clause-failed
returns-clause-failed g c =
    let told = g.S.StoredFile.told in
    let kept = c.opened-kept.result in
    let left = told c.fold-came.new.self.events.journal.file in
    let moments = subst (λ (s : State). LeavesOnly (told c.args.device.store.events.journal.file) left (λ f. StandsFor f s)) c.opened-kept.ensures.device
    (subst (λ j. LeavesOnly (told j.file) left (λ f. StandsFor f kept.device.value)) c.opened-kept.ensures.journal c.fold-came.ensures.any_moment) in
    λ contents opens.
    unfolded told contents c.args.device.store.events.journal.file c.fold-came.new.self.events.journal.file c.args.device.store.machine
    c.fold-came.result c.args.path.now c.in-Some.failure opens moments c.in-Some.ensures.told

pub returns-in-None-clause-any_moment : goal.returns-in-None-clause-any_moment
returns-in-None-clause-any_moment g c =
    let told = g.S.StoredFile.told in
    let kept = c.opened-kept.result in
    let left = told c.fold-came.new.self.events.journal.file in
    let moments = subst (λ (s : State). LeavesOnly (told c.args.device.store.events.journal.file) left (λ f. StandsFor f s)) c.opened-kept.ensures.device
    (subst (λ j. LeavesOnly (told j.file) left (λ f. StandsFor f kept.device.value)) c.opened-kept.ensures.journal c.fold-came.ensures.any_moment) in
    subst (λ f. LeavesOnly (told c.args.device.store.events.journal.file) (told f) (λ f. StandsFor f c.args.device.store.machine)) (sym c.into_file.ensures) moments
