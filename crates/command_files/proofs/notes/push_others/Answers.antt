use Rattle.std.proofs.lemmas.Result.{on_ok_weaker}
use Rattle.command_files.proofs.notes.push_others.Goals as goal

pub returns : goal.returns
returns c = on_ok_weaker c.writeln.result (λ is. is) c.writeln.ensures.bytes
