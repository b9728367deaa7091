use Rattle.zns_commands.proofs.Refusals.{statuses_are_standard}
use Rattle.zns_commands.proofs.laws.statuses_are_standard.Goals as goal

pub returns : goal.returns
returns c = statuses_are_standard
