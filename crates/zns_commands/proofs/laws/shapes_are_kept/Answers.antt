use Rattle.zns_commands.proofs.KeptBlocks.{event_shape}
use Rattle.zns_commands.proofs.laws.shapes_are_kept.Goals as goal

pub returns : goal.returns
returns c = event_shape
