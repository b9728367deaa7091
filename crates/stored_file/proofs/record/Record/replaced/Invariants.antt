use Rattle.std.proofs.Common.{◌∷◌}
use Rattle.stored_file.specs.Calls.{Replaced}
use Rattle.stored_file.proofs.record.Record.replaced.Given as goal

abbrev pub ghost-note : goal.ghost-note
ghost-note a = Replaced a._bytes.now a._done ∷ a.self.now.calls
