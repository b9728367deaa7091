use Rattle.std.proofs.lemmas.Result.{err_from_is_err_and}
use Rattle.command_serve.proofs.Openings.{made_durable, not_made, not_read}
use Rattle.command_serve.proofs.opening.make_durable.Goals as goal

pub returns-in-Ok-clause-opened : goal.returns-in-Ok-clause-opened
returns-in-Ok-clause-opened g c = λ contents found.
    let told = g.S.StoredFile.told in
    made_durable told contents c.args.file (told c.image_in.new.file) (told c.in-Ok.device.store.events.journal.file) c.in_ok-image.image c.in_ok-image.ensures.image
    c.image_in.ensures.same c.image_in.ensures.any_moment c.in-Ok.ensures.any_moment found c.in-Ok.device.store.machine c.in-Ok.ensures.new

pub returns-in_err-image-clause-failed : goal.returns-in_err-image-clause-failed
returns-in_err-image-clause-failed g c = λ contents found.
    let p = err_from_is_err_and c.from_residual.result c.from_residual.ensures.1 in
    rw (p.1, p.2) (not_read g.S.StoredFile.told contents c.args.file c.image_in.new.file c.args.path.now _ found c.image_in.ensures.any_moment
    c.in_err-image.ensures.unread)

pub returns-in-Err-clause-failed : goal.returns-in-Err-clause-failed
returns-in-Err-clause-failed g c = λ contents found.
    let told = g.S.StoredFile.told in
    not_made told contents c.args.file c.in-Err._left (told c.image_in.new.file) c.in_ok-image.image c.in_ok-image.ensures.image
    c.image_in.ensures.same c.image_in.ensures.any_moment c.in-Err.ensures.any_moment_err c.in-Err.error c.args.path.now
    c.failed.result found c.failed.ensures
