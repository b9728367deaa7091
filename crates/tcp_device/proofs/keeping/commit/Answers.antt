use Rattle.tcp_device.proofs.Covering.{commits, on_both, will_be_kept}
use Rattle.tcp_device.proofs.keeping.commit.Goals as goal

pub returns-clause-kept : goal.returns-clause-kept
returns-clause-kept c =
    on_both c.check-2.result c.check-2.ensures.none c.check-2.ensures.order
    (λ none order. will_be_kept c.commit.new.self c.args.served.now.device c.in_ok-commit.ensures.none c.in_ok-commit.ensures.committed none)

pub returns-clause-commits : goal.returns-clause-commits
returns-clause-commits c =
    let old = c.args.keeper.now in
    let new = c.commit.new.self in
    let but = c.requires.kept in
    let only = c.commit.ensures.any_moment but.committed but.durable in
    on_both c.check-2.result c.check-2.ensures.none c.check-2.ensures.order
    (λ none order. commits c.waiting_calls_are_covered.ensures old new c.args.served.now.device c.in_ok-commit.ensures.committed only.made c.in_ok-check.ensures.order order _ _ but
    c.leaves.ensures only)
