use Rattle.std.proofs.Common.{◌∷◌}
use Rattle.stored_file.specs.Calls.{Written}
use Rattle.stored_file.proofs.record.Record.written.Given as goal

abbrev pub ghost-note : goal.ghost-note
ghost-note a = Written a._number a._bytes.now a._done ∷ a.self.now.calls
