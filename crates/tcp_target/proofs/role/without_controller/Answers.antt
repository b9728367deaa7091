use Rattle.std.proofs.Common.{◌≡◌, map, arith, sym, ap, ◌∙◌}
use Rattle.std.proofs.lemmas.List.{length-set, take_all}
use Rattle.tcp_target.specs.declared.role.Role.TheVariants.{Unconnected}
use Rattle.tcp_target.specs.Roles.{without}
use Rattle.tcp_target.proofs.Mapped.{mapped_more}
use Rattle.tcp_target.proofs.role.without_controller.Goals as goal

pub loop-number-preserved : goal.loop-number-preserved
loop-number-preserved c =
    let l = c.loop-number in
    let roles = c.args.roles.now in
    record {
      made = mapped_more (λ role. without c.args.id role) roles l.kept l.number c.without.result Unconnected (omega arith) (omega arith) l.invariant.made c.without.ensures;
      all = length-set l.kept l.number c.without.result ∙ l.invariant.all;
    }

pub returns : goal.returns
returns c =
    let l = c.loop-number in
    let roles = c.args.roles.now in
    let whole = take_all l.number roles (omega arith) in
    let made : l.kept ≡ map (λ role. without c.args.id role) roles =
    sym (take_all l.number l.kept (omega arith)) ∙ (l.invariant.made ∙ ap (map (λ role. without c.args.id role)) whole) in
    made
