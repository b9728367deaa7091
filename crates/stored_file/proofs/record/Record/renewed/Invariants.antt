use Rattle.std.proofs.Common.{◌∷◌}
use Rattle.stored_file.specs.Calls.{Renewed}
use Rattle.stored_file.proofs.record.Record.renewed.Given as goal

abbrev pub ghost-note : goal.ghost-note
ghost-note a = Renewed a._number a._bytes.now a._done ∷ a.self.now.calls
