use Rattle.std.proofs.Common.{◌≡◌, None, sym, subst, ◌∙◌}
use Rattle.std.specs.Option.{option_map}
use Rattle.tcp_connection.specs.Executing.{Execution}
use Rattle.tcp_target.specs.QueueCommands.{given_to_device}
use Rattle.tcp_target.specs.Target.{TargetState}
use Rattle.tcp_device.proofs.Deeds.{own_leaves}
use Rattle.tcp_device.proofs.keeper.Keeper.serve.Goals as goal

pub returns-in-None-clause-kept : goal.returns-in-None-clause-kept
returns-in-None-clause-kept g c =
    let store = g.S.Store in
    let none : option_map (λ (e : Execution). e.entry) (given_to_device c.args.number c.args.served.now.target.queues) ≡ None =
    subst (λ (t : TargetState). option_map (λ (e : Execution). e.entry) (given_to_device c.args.number t.queues) ≡ None) c.target-target.ensures
    (sym c.given_to_device.ensures.entry ∙ c.in-None.is) in
    subst (λ s. store.keeps s (store.waits c.args.self.now.events) (store.disk c.args.self.now.events))
    (sym (own_leaves c.args.number c.args.served.now c.serve.new.self none c.serve.ensures.done)) c.requires.kept
