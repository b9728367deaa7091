use Rattle.zns_commands.proofs.BlockParts.{consecutive_blocks_are_a_part}
use Rattle.zns_commands.proofs.laws.consecutive_blocks_are_a_part.Goals as goal

pub returns : goal.returns
returns c = consecutive_blocks_are_a_part
