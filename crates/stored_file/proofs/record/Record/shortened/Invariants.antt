use Rattle.std.proofs.Common.{◌∷◌}
use Rattle.stored_file.specs.Calls.{Shortened}
use Rattle.stored_file.proofs.record.Record.shortened.Given as goal

abbrev pub ghost-note : goal.ghost-note
ghost-note a = Shortened a._number a._done ∷ a.self.now.calls
