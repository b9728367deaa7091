use Rattle.std.proofs.Common.{rules, ℕ, ◌≡◌, ◌<◌, ◌≤◌, ◌^◌, length, arith, subst, sym, ◌∙◌}
use Rattle.tcp_device.proofs.Deeds.{was_submitted}
use Rattle.tcp_device.proofs.NotedEvents.{changed, refused}
use Rattle.tcp_device.proofs.keeper.Keeper.submit_change.Goals as goal

pub returns-then-is_refusal-clause-kept : goal.returns-then-is_refusal-clause-kept
returns-then-is_refusal-clause-kept g c =
    let store = g.S.Store in
    let back : store.waits c.take_back.new.self ≡ store.waits c.args.self.now.events = search rules in
    let same : store.disk c.take_back.new.self ≡ store.disk c.args.self.now.events = search rules in
    let identified = subst (λ (n : ℕ). n < 2 ^ 16) c.cid-identifier.ensures c.cid-identifier.type_inv in
    let was =
    was_submitted c.args.number c.args.served.now c.submit-reply.new.self c.args.entry.now c.given_data-input.result.now c.submit-reply.result
    c.requires.given c.given_data-input.ensures c.submit-reply.ensures in
    subst (λ s. store.keeps s (store.waits c.take_back.new.self) (store.disk c.take_back.new.self)) (sym (refused c.changes_come_again.ensures c.args.served.now.device c.submit-reply.new.self.device c.submit-reply.result c.args.number c.args.entry.now c.given_data-input.result.now identified was
    (sym c.is_refusal.ensures ∙ c.if-is_refusal.true)))
    (subst (λ w. store.keeps c.args.served.now.device w (store.disk c.take_back.new.self)) (sym back)
    (subst (λ d. store.keeps c.args.served.now.device (store.waits c.args.self.now.events) d) (sym same) c.requires.kept))

pub returns-else-is_refusal-clause-kept : goal.returns-else-is_refusal-clause-kept
returns-else-is_refusal-clause-kept g c =
    let store = g.S.Store in
    let identified = subst (λ (n : ℕ). n < 2 ^ 16) c.cid-identifier.ensures c.cid-identifier.type_inv in
    let was =
    was_submitted c.args.number c.args.served.now c.submit-reply.new.self c.args.entry.now c.given_data-input.result.now c.submit-reply.result
    c.requires.given c.given_data-input.ensures c.submit-reply.ensures in
    let whole : length c.args.entry.now ≡ 64 = search rules in
    let numbered : c.args.number < 2 ^ 16 = omega (arith, c.requires.number) in
    let fits : length c.given_data-input.result.now ≤ 131072 = search rules in
    subst (λ s. store.keeps s (store.waits c.note_submission.new.events) (store.disk c.note_submission.new.events)) (sym (changed c.changes_come_again.ensures c.args.served.now.device c.submit-reply.new.self.device c.submit-reply.result c.args.number c.args.entry.now c.given_data-input.result.now identified was
    c.requires.asks (sym c.is_refusal.ensures ∙ c.if-is_refusal.false) numbered whole fits))
    (c.in_ok-before.ensures.noted c.args.served.now.device c.requires.kept)
