use Rattle.std.proofs.Common.{subst}
use Rattle.tcp_device.specs.State.{ServedState}
use Rattle.tcp_loop.specs.Keeping.{IsFolded, KeptState}
use Rattle.tcp_device.specs.FileCalls.{keeping_of}
use Rattle.tcp_device.specs.Kept.{file_of}
use Rattle.tcp_device.specs.LoopMeaning.{kept_in_file}
use Rattle.tcp_device.proofs.Covering.{is_folded}
use Rattle.tcp_device.proofs.durable.DurableTargetKeptTarget.fold.Goals as goal

pub returns-in-Ok-clause-folded : goal.returns-in-Ok-clause-folded
returns-in-Ok-clause-folded c =
    let new = c.fold.new.keeper in
    subst (λ (k : KeptState ServedState). IsFolded kept_in_file c.in-Ok.is_put k (record { state = c.self.inside.served; file = keeping_of (file_of new) }))
    c.self.view_is
    (is_folded c.in-Ok.is_put c.self.inside.keeper new c.self.inside.served c.in-Ok.ensures.folds c.in-Ok.ensures.put c.in-Ok.ensures.not_put)
