use Rattle.zns_commands.proofs.SelectedZones.{select_all_is_refused_by_holds_and_limits}
use Rattle.zns_commands.proofs.laws.select_all_is_refused_by_holds_and_limits.Goals as goal

pub returns : goal.returns
returns c = select_all_is_refused_by_holds_and_limits
