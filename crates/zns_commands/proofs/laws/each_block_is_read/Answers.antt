use Rattle.zns_commands.proofs.EachBlock.{each_block_is_read}
use Rattle.zns_commands.proofs.laws.each_block_is_read.Goals as goal

pub returns : goal.returns
returns c = each_block_is_read
