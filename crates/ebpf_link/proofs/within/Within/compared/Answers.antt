use Rattle.std.proofs.Common.{◌∙◌, w32, w64}
use Rattle.std.proofs.lemmas.Int.{to_z-of_z}
use Rattle.ebpf_link.proofs.BoundLemmas.{compares}
use Rattle.ebpf_link.proofs.within.Within.compared.Goals as goal

pub returns : goal.returns
returns c =
    let low = to_z-of_z w32 c.clamped-low.result (record { sfits = c.clamped-low.type_inv }) in
    let high = to_z-of_z w32 c.clamped-high.result (record { sfits = c.clamped-high.type_inv }) in
    let lower = to_z-of_z w64 c.lower_end.result (record { sfits = c.lower_end.type_inv }) in
    let upper = to_z-of_z w64 c.upper_end.result (record { sfits = c.upper_end.type_inv }) in
    rw (low, high)
    (compares c.args.self c.clamped-low.result c.clamped-high.result _ _ (record {
      lower_is = lower ∙ c.lower_end.ensures;
      upper_is = upper ∙ c.upper_end.ensures;
      low_inside = c.clamped-low.ensures.higher;
      low_least = c.clamped-low.ensures.least;
      high_inside = c.clamped-high.ensures.lower;
      high_most = c.clamped-high.ensures.greatest;
    }))
