use Rattle.tcp_device.proofs.Agreeing.{runs_have_their_commands}
use Rattle.tcp_device.proofs.laws.runs_have_their_commands.Goals as goal

pub returns : goal.returns
returns c = runs_have_their_commands
