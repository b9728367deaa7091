use Rattle.tcp_device.proofs.Turning.{runs_take_turns}
use Rattle.tcp_device.proofs.laws.runs_take_turns.Goals as goal

pub returns : goal.returns
returns c = runs_take_turns
