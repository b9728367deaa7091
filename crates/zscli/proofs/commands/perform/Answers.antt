use Rattle.zscli.proofs.Makes.{named}
use Rattle.zscli.proofs.commands.perform.Goals as goal

pub returns-in_default-clause-name : goal.returns-in_default-clause-name
returns-in_default-clause-name g c = named _ _ c.perform_at_once.ensures.one
