use Rattle.std.proofs.Common.{rules, ◌≡◌, subst}
use Rattle.stored_file.specs.File.{LeavesOnly}
use Rattle.device_meaning.specs.State.{State}
use Rattle.durable_device.specs.Kept.{StandsFor}
use Rattle.tcp_device.proofs.keeper.Keeper.fold.Goals as goal

pub returns-clause-any_moment : goal.returns-clause-any_moment
returns-clause-any_moment g c =
    let store = g.S.Store in
    let here : c.device.result.now ≡ c.args.served.now.device = search rules in
    subst (λ (s : State). LeavesOnly (store.told (store.disk c.args.self.now.events)) (store.told (store.disk c.fold.new.self)) (λ f. StandsFor f s)) here
    c.fold.ensures.any_moment

pub returns-in_err-folding-clause-any_moment : goal.returns-in_err-folding-clause-any_moment
returns-in_err-folding-clause-any_moment g c =
    let store = g.S.Store in
    let here : c.device.result.now ≡ c.args.served.now.device = search rules in
    subst (λ (s : State). LeavesOnly (store.told (store.disk c.args.self.now.events)) (store.told (store.disk c.fold.new.self)) (λ f. StandsFor f s)) here
    c.fold.ensures.any_moment
