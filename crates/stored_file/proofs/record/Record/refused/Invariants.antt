use Rattle.std.proofs.Common.{◌∷◌}
use Rattle.stored_file.specs.Calls.{Refused}
use Rattle.stored_file.proofs.record.Record.refused.Given as goal

abbrev pub ghost-note : goal.ghost-note
ghost-note a = Refused ∷ a.self.now.calls
