use Rattle.stored_file.specs.Calls.{read_further}
use Rattle.stored_file.proofs.record.Record.read_on.Given as goal

abbrev pub ghost-note : goal.ghost-note
ghost-note a = read_further a._bytes.now a.self.now.calls
