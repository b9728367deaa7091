use Rattle.tcp_device.proofs.HostsWaiting.{waited_for}
use Rattle.tcp_device.proofs.laws.hosts_are_waited_for.Goals as goal

pub returns : goal.returns
returns c = waited_for c.time_is_counted.ensures
