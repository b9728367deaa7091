use Rattle.std.proofs.Common.{ℕ, ◌<◌, ◌^◌, subst, sym, ◌∙◌}
use Rattle.tcp_target.specs.QueueCommands.{given_to_device}
use Rattle.tcp_device.proofs.Deeds.{has_data, its_data, was_submitted}
use Rattle.tcp_device.proofs.NotedEvents.{reads}
use Rattle.tcp_device.proofs.keeper.Keeper.submit.Goals as goal

pub returns-clause-kept : goal.returns-clause-kept
returns-clause-kept g c =
    let store = g.S.Store in
    let given = given_to_device c.args.number c.args.served.now.target.queues in
    let identified = subst (λ (n : ℕ). n < 2 ^ 16) c.cid-identifier.ensures c.cid-identifier.type_inv in
    let was =
    was_submitted c.args.number c.args.served.now c.submit.new.self c.args.entry.now (its_data given) c.submit.result c.requires.given (has_data given)
    c.submit.ensures in
    subst (λ s. store.keeps s (store.waits c.args.self.now.events) (store.disk c.args.self.now.events))
    (sym (reads c.changes_come_again.ensures c.args.served.now.device c.submit.new.self.device c.submit.result c.args.number c.args.entry.now (its_data given) identified was
    (sym c.asks_change.ensures ∙ c.if-asks_change.false))) c.requires.kept
