use Rattle.std.proofs.Common.{◌∷◌}
use Rattle.stored_file.specs.Calls.{Synced}
use Rattle.stored_file.proofs.record.Record.synced.Given as goal

abbrev pub ghost-note : goal.ghost-note
ghost-note a = Synced a._done ∷ a.self.now.calls
