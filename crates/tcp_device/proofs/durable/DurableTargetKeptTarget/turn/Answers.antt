use Rattle.std.proofs.Common.{ap, subst}
use Rattle.tcp_device.specs.State.{ServedState}
use Rattle.tcp_loop.specs.Deeds.{Turned}
use Rattle.tcp_loop.specs.Keeping.{KeptState}
use Rattle.tcp_device.specs.LoopMeaning.{does}
use Rattle.tcp_device.proofs.Covering.{on_ok}
use Rattle.tcp_device.proofs.durable.DurableTargetKeptTarget.turn.Goals as goal

pub returns-clause-done : goal.returns-clause-done
returns-clause-done c =
    on_ok c.turn.result c.turn.ensures.done
    (λ done. subst (λ (s : ServedState). does Turned s c.turn.new.served) (ap (λ (k : KeptState ServedState). k.state) c.self.view_is) (tt, done))
