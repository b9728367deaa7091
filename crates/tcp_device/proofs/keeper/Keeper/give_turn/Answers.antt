use Rattle.std.proofs.Common.{rules, ◌≡◌, ◌<◌, ◌^◌, arith, subst, sym, ◌∙◌}
use Rattle.tcp_device.proofs.Deeds.{was_turned}
use Rattle.tcp_device.proofs.NotedEvents.{idled, turned}
use Rattle.tcp_device.proofs.keeper.Keeper.give_turn.Goals as goal

pub returns-then-is_idle-clause-kept : goal.returns-then-is_idle-clause-kept
returns-then-is_idle-clause-kept g c =
    let store = g.S.Store in
    let back : store.waits c.take_back.new.self ≡ store.waits c.args.self.now.events = search rules in
    let same : store.disk c.take_back.new.self ≡ store.disk c.args.self.now.events = search rules in
    let numbered : c.args.run < 2 ^ 8 = omega (arith, c.requires.within) in
    let was =
    was_turned c.args.run c.args.served.now c.give_turn-reply.new.self c.give_turn-reply.result c.requires.next c.give_turn-reply.ensures in
    subst (λ s. store.keeps s (store.waits c.take_back.new.self) (store.disk c.take_back.new.self)) (sym (idled c.changes_come_again.ensures c.args.served.now.device c.give_turn-reply.new.self.device c.give_turn-reply.result c.args.run numbered was
    (sym c.is_idle.ensures ∙ c.if-is_idle.true)))
    (subst (λ w. store.keeps c.args.served.now.device w (store.disk c.take_back.new.self)) (sym back)
    (subst (λ d. store.keeps c.args.served.now.device (store.waits c.args.self.now.events) d) (sym same) c.requires.kept))

pub returns-else-is_idle-clause-kept : goal.returns-else-is_idle-clause-kept
returns-else-is_idle-clause-kept g c =
    let store = g.S.Store in
    let numbered : c.args.run < 2 ^ 8 = omega (arith, c.requires.within) in
    let was =
    was_turned c.args.run c.args.served.now c.give_turn-reply.new.self c.give_turn-reply.result c.requires.next c.give_turn-reply.ensures in
    subst (λ s. store.keeps s (store.waits c.note_turn.new.events) (store.disk c.note_turn.new.events)) (sym (turned c.changes_come_again.ensures c.args.served.now.device c.give_turn-reply.new.self.device c.give_turn-reply.result c.args.run numbered was
    (sym c.is_idle.ensures ∙ c.if-is_idle.false)))
    (c.in_ok-before.ensures.noted c.args.served.now.device c.requires.kept)
