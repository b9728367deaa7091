use Rattle.std.proofs.Common.{◌≡◌, ◌++◌, [], sym, ◌∙◌}
use Rattle.event_frames.specs.Frames.{request_frame}
use Rattle.event_frames.specs.Requests.{Turned}
use Rattle.durable_machine.proofs.Spelling.{alone}
use Rattle.durable_device.proofs.notes.note_turn.Goals as goal

pub returns-clause-noted : goal.returns-clause-noted
returns-clause-noted g c device kept =
    let is : request_frame (Turned c.args.run) ≡ c.header.result ++ [] ++ [] = sym (alone c.header.result ∙ c.header.ensures) in
    c.note.ensures.noted device (request_frame (Turned c.args.run)) is kept
