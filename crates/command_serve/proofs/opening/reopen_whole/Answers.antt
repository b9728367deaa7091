use Rattle.std.proofs.Common.{◌∙◌, List, ℕ, subst}
use Rattle.durable_device.specs.Kept.{StandsForIt}
use Rattle.command_serve.specs.steps.Told.{TellsFault}
use Rattle.command_serve.proofs.Openings.{not_read, not_reopened, read_first, refused_first, reopened}
use Rattle.command_serve.proofs.opening.reopen_whole.Goals as goal

pub returns-in-Ok-open_read-clause-opened : goal.returns-in-Ok-open_read-clause-opened
returns-in-Ok-open_read-clause-opened g c = λ contents found.
    let told = g.S.StoredFile.told in
    let device = c.in-Ok-open_read.device in
    let opened = told device.store.events.journal.file in
    reopened told contents c.args.file opened device.store.machine found
    (subst (λ (l : List ℕ). StandsForIt l device.store.machine) c.read_whole.ensures.same.seen c.in-Ok-open_read.ensures.state)
    (read_first told contents c.args.file (told c.read_whole.new.file) c.read_whole.ensures.same c.read_whole.ensures.any_moment c.requires opened
    c.in-Ok-open_read.ensures.any_moment)

pub returns-in-Ok-clause-failed : goal.returns-in-Ok-clause-failed
returns-in-Ok-clause-failed g c = λ contents found.
    let told = g.S.StoredFile.told in
    let left = c.in-Err-open_read._left in
    let read = told c.read_whole.new.file in
    not_reopened told contents c.args.file left c.in-Err-open_read.fault c.args.path.now c.refused.result found
    (read_first told contents c.args.file read c.read_whole.ensures.same c.read_whole.ensures.any_moment c.requires (told left)
    c.in-Err-open_read.ensures.any_moment_err)
    (refused_first told contents c.args.file read c.read_whole.ensures.same c.read_whole.ensures.any_moment c.requires (told left)
    c.in-Err-open_read.fault c.read_whole.ensures.cause.later c.in-Err-open_read.ensures.refused)
    (subst (λ (l : List ℕ). TellsFault l c.in-Err-open_read.fault c.args.path.now c.refused.result)
    (c.deref-in-Err-open_read.ensures.value ∙ c.in-Ok.ensures.bytes) c.refused.ensures)

pub returns-clause-failed : goal.returns-clause-failed
returns-clause-failed g c = λ contents found.
    not_read g.S.StoredFile.told contents c.args.file c.read_whole.new.file c.args.path.now c.unread.result found c.read_whole.ensures.any_moment
    c.unread.ensures
