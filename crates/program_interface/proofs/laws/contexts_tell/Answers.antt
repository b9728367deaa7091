use Rattle.program_interface.proofs.ContextFields.{contexts_tell}
use Rattle.program_interface.proofs.laws.contexts_tell.Goals as goal

pub returns : goal.returns
returns c = contexts_tell
