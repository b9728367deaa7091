use Rattle.std.proofs.Common.{rules, ◌≡◌, [], subst}
use Rattle.tcp_device.proofs.keeper.Keeper.is_committed.Goals as goal

pub returns-clause-kept : goal.returns-clause-kept
returns-clause-kept g c is =
    let store = g.S.Store in
    let device = c.args.served.now.device in
    let none : store.waits c.args.self.now.events ≡ [] = search rules in
    c.rests.ensures.all_settled device (store.disk c.args.self.now.events)
    (subst (λ w. store.keeps device w (store.disk c.args.self.now.events)) none c.requires)
