use Rattle.zns_commands.proofs.HeldCommands.{held_commands_are_refused}
use Rattle.zns_commands.proofs.laws.held_commands_are_refused.Goals as goal

pub returns : goal.returns
returns c = held_commands_are_refused
