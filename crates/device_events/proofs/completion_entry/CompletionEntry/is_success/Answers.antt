use Rattle.std.proofs.Common.{◌∙◌, ap}
use Rattle.device_events.specs.CompletionEntries.{tells_success}
use Rattle.device_events.proofs.completion_entry.CompletionEntry.is_success.Goals as goal

pub returns : goal.returns
returns c =
    let fields = c.self.inside.completion in
    c.is_success.ensures fields.dw0 fields.dw1 fields.queue ∙ ap tells_success c.self.view_is
