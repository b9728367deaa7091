use Rattle.tcp_device.proofs.Covering.{is_told}
use Rattle.tcp_device.proofs.memory.MemoryTargetKeptTarget.call_done.Goals as goal

pub returns-clause-told : goal.returns-clause-told
returns-clause-told c = is_told c.args.self.now.file c.tell_done.new.self c.tell_done.ensures.told
