use Rattle.zns_commands.proofs.SelectedZones.{select_all_is_each_alone, taken_zones_move}
use Rattle.zns_commands.proofs.laws.select_all_is_each_alone.Goals as goal

pub returns-clause-moves : goal.returns-clause-moves
returns-clause-moves c = taken_zones_move

pub returns-clause-alone : goal.returns-clause-alone
returns-clause-alone c = select_all_is_each_alone
