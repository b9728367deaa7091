use Rattle.std.proofs.Common.{◌≡◌, map, arith, sym, ap, ◌∙◌}
use Rattle.std.proofs.lemmas.List.{length-set, take_all}
use Rattle.tcp_target.specs.Clocks.{later_controller, started_controller}
use Rattle.tcp_target.proofs.Mapped.{mapped_more}
use Rattle.tcp_target.proofs.time.later_clocks.Goals as goal

pub loop-id-preserved : goal.loop-id-preserved
loop-id-preserved c =
    let l = c.loop-id in
    let clocks = c.args.clocks.now in
    record {
      made = mapped_more (λ clock. later_controller c.args.milliseconds clock) clocks l.later l.id c.later.result started_controller (omega arith) (omega arith) l.invariant.made c.later.ensures;
      all = length-set l.later l.id c.later.result ∙ l.invariant.all;
    }

pub returns : goal.returns
returns c =
    let l = c.loop-id in
    let clocks = c.args.clocks.now in
    let whole = take_all l.id clocks (omega arith) in
    let made : l.later ≡ map (λ clock. later_controller c.args.milliseconds clock) clocks =
    sym (take_all l.id l.later (omega arith)) ∙ (l.invariant.made ∙ ap (map (λ clock. later_controller c.args.milliseconds clock)) whole) in
    made
