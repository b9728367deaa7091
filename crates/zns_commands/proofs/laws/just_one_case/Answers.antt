use Rattle.zns_commands.proofs.Refusals.{just_one_case}
use Rattle.zns_commands.proofs.laws.just_one_case.Goals as goal

pub returns : goal.returns
returns c = just_one_case
