use Rattle.std.proofs.Common.{◌≡◌, ℕ, ap, sym, refl, ◌∙◌, add-one}
use Rattle.tcp_target.specs.Target.{TargetState}
use Rattle.tcp_target.specs.Time.{counted_at, counted_below}
use Rattle.tcp_target.proofs.target.Target.count.Goals as goal

pub loop-number-init : goal.loop-number-init
unfolding counted_below
loop-number-init c = refl

pub loop-number-preserved : goal.loop-number-preserved
unfolding counted_below
loop-number-preserved c =
    let l = c.loop-number in
    c.count_at.ensures
    ∙ ap (λ (t : TargetState). counted_at c.args.milliseconds l.number t) l.invariant
    ∙ ap (λ (n : ℕ). counted_below c.args.milliseconds n c.args.self.now) (sym (add-one l.number))
