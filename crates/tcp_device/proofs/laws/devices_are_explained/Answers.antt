use Rattle.tcp_device.proofs.Explaining.{explained, explained_in_memory}
use Rattle.tcp_device.proofs.laws.devices_are_explained.Goals as goal

pub returns-clause-in_file : goal.returns-clause-in_file
returns-clause-in_file c =
    explained c.deeds_are_events.ensures c.commands_are_answered.ensures c.next_is_answered.ensures c.runs_go_on.ensures
    c.commands_are_in_order.ensures

pub returns-clause-in_memory : goal.returns-clause-in_memory
returns-clause-in_memory c =
    explained_in_memory c.deeds_are_events.ensures c.commands_are_answered.ensures c.next_is_answered.ensures c.runs_go_on.ensures
    c.commands_are_in_order.ensures
