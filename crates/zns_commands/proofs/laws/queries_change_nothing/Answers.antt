use Rattle.zns_commands.proofs.Meanings.{queries_change_nothing}
use Rattle.zns_commands.proofs.laws.queries_change_nothing.Goals as goal

pub returns : goal.returns
returns c = queries_change_nothing
