use Rattle.zns_commands.proofs.HeldSources.{held_sources_keep_blocks}
use Rattle.zns_commands.proofs.laws.held_sources_keep_blocks.Goals as goal

pub returns : goal.returns
returns c = held_sources_keep_blocks
