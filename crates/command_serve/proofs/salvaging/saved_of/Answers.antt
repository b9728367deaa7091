use Rattle.command_serve.proofs.Saved.{unheld_unsaved}
use Rattle.command_serve.proofs.salvaging.saved_of.Goals as goal

pub returns-in-Err-clause-failed : goal.returns-in-Err-clause-failed
returns-in-Err-clause-failed g c = unheld_unsaved _ c.args.path _ c.in-Err.ensures.failed
