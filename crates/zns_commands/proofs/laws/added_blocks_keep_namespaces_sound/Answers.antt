use Rattle.zns_commands.proofs.OpenZones.{added_blocks_keep_namespaces_sound}
use Rattle.zns_commands.proofs.laws.added_blocks_keep_namespaces_sound.Goals as goal

pub returns : goal.returns
returns c = added_blocks_keep_namespaces_sound
