use Rattle.zns_commands.proofs.Refusals.{refused_commands_change_nothing}
use Rattle.zns_commands.proofs.laws.refused_commands_change_nothing.Goals as goal

pub returns : goal.returns
returns c = refused_commands_change_nothing
