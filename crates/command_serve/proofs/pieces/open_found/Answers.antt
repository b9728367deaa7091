use Rattle.command_serve.proofs.Openings.{read_found, reopened}
use Rattle.command_serve.proofs.pieces.open_found.Goals as goal

pub returns-in-Ok-open_found-clause-opened : goal.returns-in-Ok-open_found-clause-opened
returns-in-Ok-open_found-clause-opened g c =
    let told = g.F.Stored.StoredFile.told in
    let contents = g.F.Files.contents c.args.files.now c.args.path.now in
    let file = c.in-Ok.file in
    let device = c.in-Ok-open_found.device in
    let found = read_found told contents (told file) (g.F.Reading.FileReading.given c.args.reading) c.in-Ok.ensures.restarted c.in-Ok.ensures.bytes c.requires.known in
    reopened told contents file (told device.store.events.journal.file) device.store.machine found c.in-Ok-open_found.ensures.state
    c.in-Ok-open_found.ensures.any_moment
