use Rattle.std.proofs.Common.{◌≡◌, ◌++◌, [], ℕ, ap, sym, ◌∙◌}
use Rattle.event_frames.specs.Frames.{header, request_frame}
use Rattle.event_frames.specs.Requests.{Faulted}
use Rattle.durable_machine.proofs.Spelling.{alone}
use Rattle.durable_device.proofs.notes.note_fault.Goals as goal

pub returns-clause-noted : goal.returns-clause-noted
returns-clause-noted g c device kept =
    let is : request_frame (Faulted c.args.zone c.args.state) ≡ c.header.result ++ [] ++ [] =
    sym (alone c.header.result ∙ c.header.ensures ∙ ap (λ (part : ℕ). header 3 part 0 c.args.zone 0) c.state_number.ensures) in
    c.note.ensures.noted device (request_frame (Faulted c.args.zone c.args.state)) is kept
