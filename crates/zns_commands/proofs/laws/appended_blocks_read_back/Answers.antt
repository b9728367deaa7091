use Rattle.zns_commands.proofs.ReadBack.{appended_blocks_read_back}
use Rattle.zns_commands.proofs.laws.appended_blocks_read_back.Goals as goal

pub returns : goal.returns
returns c = appended_blocks_read_back
