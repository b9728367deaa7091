use Rattle.zns_commands.proofs.OpenZones.{added_blocks_are_appended}
use Rattle.zns_commands.proofs.laws.added_blocks_are_appended.Goals as goal

pub returns : goal.returns
returns c = added_blocks_are_appended
