use Rattle.std.proofs.Common.{◌∷◌}
use Rattle.stored_file.specs.Calls.{Opened}
use Rattle.stored_file.proofs.record.Record.opened.Given as goal

abbrev pub ghost-note : goal.ghost-note
ghost-note a = Opened a._bytes.now ∷ a.self.now.calls
