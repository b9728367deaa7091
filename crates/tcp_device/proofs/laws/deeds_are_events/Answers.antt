use Rattle.tcp_device.proofs.Happened.{deeds_are_events}
use Rattle.tcp_device.proofs.laws.deeds_are_events.Goals as goal

pub returns : goal.returns
returns c = deeds_are_events
