use Rattle.command_serve.proofs.Saved.{fault_unsaved}
use Rattle.command_serve.proofs.salvaging.saved_in.Goals as goal

pub returns-in-Err-clause-failed : goal.returns-in-Err-clause-failed
returns-in-Err-clause-failed c = fault_unsaved c.args.bytes.now c.in-Err.fault c.args.path.now c.refused.result c.in-Err.ensures.refused c.refused.ensures
