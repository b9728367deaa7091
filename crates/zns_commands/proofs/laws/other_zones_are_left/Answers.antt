use Rattle.zns_commands.proofs.Untouched.{other_zones_are_left}
use Rattle.zns_commands.proofs.laws.other_zones_are_left.Goals as goal

pub returns : goal.returns
returns c = other_zones_are_left
