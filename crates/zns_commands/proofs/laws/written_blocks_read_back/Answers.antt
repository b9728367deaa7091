use Rattle.zns_commands.proofs.ReadBack.{written_blocks_read_back}
use Rattle.zns_commands.proofs.laws.written_blocks_read_back.Goals as goal

pub returns : goal.returns
returns c = written_blocks_read_back
