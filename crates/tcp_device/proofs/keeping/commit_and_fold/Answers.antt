use Rattle.std.proofs.Common.{◌∙◌}
use Rattle.tcp_device.proofs.Covering.{commits, committed_then, on_both, will_be_kept}
use Rattle.tcp_device.proofs.keeping.commit_and_fold.Goals as goal

pub returns-clause-kept : goal.returns-clause-kept
returns-clause-kept c =
    on_both c.check-2.result c.check-2.ensures.none c.check-2.ensures.order
    (λ none order. will_be_kept c.fold_when_due.new.self c.args.served.now.device (c.fold_when_due.ensures.same ∙ c.in_ok-commit.ensures.none) c.in_ok-fold_when_due.ensures.settled none)

pub returns-clause-commits : goal.returns-clause-commits
returns-clause-commits c =
    let old = c.args.keeper.now in
    let mid = c.commit.new.self in
    let new = c.fold_when_due.new.self in
    let device = c.args.served.now.device in
    let but = c.requires.kept in
    let only = committed_then old mid new but.committed device (c.commit.ensures.any_moment but.committed but.durable) c.fold_when_due.ensures.any_moment in
    on_both c.check-2.result c.check-2.ensures.none c.check-2.ensures.order
    (λ none order. commits c.waiting_calls_are_covered.ensures old new device c.in_ok-fold_when_due.ensures.settled only.made c.in_ok-check.ensures.order order _ _ but
    c.leaves.ensures only)
