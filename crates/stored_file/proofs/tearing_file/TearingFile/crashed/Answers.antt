use Rattle.std.proofs.Common.{rules, ◌≡◌, ◌<◌, List, ℕ, length, take, sym, subst}
use Rattle.stored_file.specs.Unsynced.{IsLeftOf, Leaves}
use Rattle.stored_file.specs.declared.change.Change.{Change}
use Rattle.stored_file.proofs.Changes.{one_more, pushed-leaves}
use Rattle.stored_file.proofs.tearing_file.TearingFile.crashed.Goals as goal

pub loop-change-preserved : goal.loop-change-preserved
loop-change-preserved c =
    let i = c.loop-change.change-index in
    let changes = c.args.self.now.changes.items in
    let given = c.deref-2.result.now in
    let same : given ≡ changes = search rules in
    let within : i < length (take c.args.moment given) = search rules in
    let old : c.deref-in-loop-change.result.now ≡ c.loop-change.left.items = search rules in
    let step : IsLeftOf c.change-item.result c.loop-change.left.items c.in_ok-left-2.left.items = subst (λ (file : List ℕ). IsLeftOf c.change-item.result file c.in_ok-left-2.left.items) old c.in_ok-left-2.ensures in
    subst (λ (l : List Change). Leaves l (λ file. file ≡ c.args.self.now.first.items) c.in_ok-left-2.left.items) (sym (one_more changes given c.args.moment i c.change-item.result same within c.change-item.is))
    (pushed-leaves (take i changes) c.change-item.result (λ file. file ≡ c.args.self.now.first.items) c.loop-change.left.items c.in_ok-left-2.left.items c.loop-change.invariant step)
