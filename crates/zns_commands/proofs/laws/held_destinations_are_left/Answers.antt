use Rattle.zns_commands.proofs.HeldZones.{held_destinations_are_left}
use Rattle.zns_commands.proofs.laws.held_destinations_are_left.Goals as goal

pub returns : goal.returns
returns c = held_destinations_are_left
