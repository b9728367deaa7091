use Rattle.std.proofs.Common.{◌≡◌, ◌++◌, List, ℕ, length, sym, ap, ◌∙◌, append_assoc}
use Rattle.event_frames.specs.Frames.{header, request_frame}
use Rattle.event_frames.specs.Requests.{Submitted}
use Rattle.durable_device.proofs.notes.note_submission.Goals as goal

pub returns-clause-noted : goal.returns-clause-noted
returns-clause-noted g c device kept =
    let entry = c.args.entry.now in
    let input = c.args.input.now in
    let head = header 1 0 c.args.queue 0 (length input) in
    let is : request_frame (Submitted c.args.queue entry input) ≡ c.header.result ++ entry ++ input =
    sym (append_assoc head entry input) ∙ ap (λ (h : List ℕ). h ++ entry ++ input) (sym c.header.ensures) in
    c.note.ensures.noted device (request_frame (Submitted c.args.queue entry input)) is kept
