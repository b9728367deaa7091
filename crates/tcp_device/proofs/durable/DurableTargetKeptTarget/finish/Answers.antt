use Rattle.std.proofs.Common.{subst}
use Rattle.tcp_device.specs.State.{ServedState}
use Rattle.tcp_loop.specs.Keeping.{IsCommitted, KeptState}
use Rattle.tcp_device.specs.FileCalls.{keeping_of}
use Rattle.tcp_device.specs.Kept.{file_of}
use Rattle.tcp_device.specs.LoopMeaning.{kept_in_file}
use Rattle.tcp_device.proofs.Covering.{is_committed}
use Rattle.tcp_device.proofs.durable.DurableTargetKeptTarget.finish.Goals as goal

pub returns-in-Ok-clause-committed : goal.returns-in-Ok-clause-committed
returns-in-Ok-clause-committed c =
    let new = c.commit.new.keeper in
    subst (λ (k : KeptState ServedState). IsCommitted kept_in_file k (record { state = c.self.inside.served; file = keeping_of (file_of new) }))
    c.self.view_is (is_committed c.self.inside.keeper new c.self.inside.served c.in-Ok.ensures.commits)
