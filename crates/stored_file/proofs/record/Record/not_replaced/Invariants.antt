use Rattle.std.proofs.Common.{◌∷◌}
use Rattle.stored_file.specs.Calls.{NotReplaced}
use Rattle.stored_file.proofs.record.Record.not_replaced.Given as goal

abbrev pub ghost-note : goal.ghost-note
ghost-note a = NotReplaced ∷ a.self.now.calls
