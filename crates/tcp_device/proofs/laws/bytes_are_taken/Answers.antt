use Rattle.tcp_device.proofs.Taking.{bytes_are_always_taken}
use Rattle.tcp_device.proofs.laws.bytes_are_taken.Goals as goal

pub returns : goal.returns
returns c = bytes_are_always_taken
