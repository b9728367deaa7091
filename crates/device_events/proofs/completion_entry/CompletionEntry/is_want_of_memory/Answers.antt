use Rattle.std.proofs.Common.{◌∙◌, ap}
use Rattle.device_events.specs.CompletionEntries.{tells_want}
use Rattle.device_events.proofs.completion_entry.CompletionEntry.is_want_of_memory.Goals as goal

pub returns : goal.returns
returns c =
    let fields = c.self.inside.completion in
    c.is_want_of_memory.ensures fields.dw0 fields.dw1 fields.queue ∙ ap tells_want c.self.view_is
