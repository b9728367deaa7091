use Rattle.std.proofs.Common.{rules, ◌≡◌, subst}
use Rattle.ebpf_link.proofs.Disjoint.{sums}
use Rattle.ebpf_link.proofs.sums.are_apart.Goals as goal
use Rattle.interval_domain.specs.Fact.{ContainsWord}
use Rattle.interval_domain.specs.declared.fact.Fact.TheVariants.{Pointer, Words}

pub returns : goal.returns
returns c = λ is x y hx hy.
    let first : c.args.address ≡ Pointer c.in-Pointer-Words.area-0 c.in-Pointer-Words.low c.in-Pointer-Words.high = cc in
    let second : c.args.number ≡ Words c.in-Pointer-Words.bounds = cc in
    sums c.in-Pointer-Words.area-0 c.in-Pointer-Words.low c.in-Pointer-Words.high c.in-Pointer-Words.bounds c.distance_of.result
    c.mask_over.result (search rules) (search rules) (search rules) (search rules) c.mask_over.ensures (search rules)
    x y (subst (λ fact. ContainsWord fact x) first hx) (subst (λ fact. ContainsWord fact y) second hy)
