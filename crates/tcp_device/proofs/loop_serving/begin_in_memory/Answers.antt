use Rattle.tcp_device.proofs.Beginning.{if_ok}
use Rattle.tcp_device.proofs.Covering.{in_memory_covers}
use Rattle.tcp_device.proofs.loop_serving.begin_in_memory.Goals as goal

pub returns-clause-holds : goal.returns-clause-holds
returns-clause-holds c =
    if_ok c.new.result _ _ c.new.ensures.begins (λ l so. (_, so (in_memory_covers c.args.served c.args.served _ _)))
