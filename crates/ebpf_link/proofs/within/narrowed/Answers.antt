use Rattle.std.proofs.Common.{◌≡◌, ◌∙◌, w16, w64}
use Rattle.std.proofs.lemmas.Int.{to_z-of_z}
use Rattle.ebpf_link.proofs.BoundLemmas.{narrows}
use Rattle.ebpf_link.proofs.within.narrowed.Goals as goal

pub returns : goal.returns
returns c =
    let low = to_z-of_z w64 c.greater-low.result (record { sfits = c.greater-low.type_inv }) in
    let high = to_z-of_z w64 c.lesser-high.result (record { sfits = c.lesser-high.type_inv }) in
    let lower = to_z-of_z w64 c.lower_end.result (record { sfits = c.lower_end.type_inv }) in
    let lowest = to_z-of_z w64 c.lowest-lowest.result (record { sfits = c.lowest-lowest.type_inv }) in
    let upper = to_z-of_z w64 c.upper_end.result (record { sfits = c.upper_end.type_inv }) in
    let greatest = to_z-of_z w64 c.greatest-greatest.result (record { sfits = c.greatest-greatest.type_inv }) in
    let offset = to_z-of_z w16 c.offset_of-offset.result (record { sfits = c.offset_of-offset.type_inv }) in
    narrows c.args.within _ c.args.access c.args.length _ _ _ _ _ _ _ (record {
      area = c.whole.ensures.area;
      lower_is = lower ∙ c.lower_end.ensures;
      upper_is = upper ∙ c.upper_end.ensures;
      offset_is = offset ∙ c.offset_of-offset.ensures;
      from_is = lowest;
      to_is = greatest;
      lowest_is = c.lowest-lowest.ensures;
      greatest_fits = c.greatest-greatest.ensures.most;
      greatest_is = c.greatest-greatest.ensures.widest;
      low_one = rw low c.greater-low.ensures.one;
      low_other = rw low c.greater-low.ensures.other;
      low_least = rw low c.greater-low.ensures.least;
      high_one = rw high c.lesser-high.ensures.one;
      high_other = rw high c.lesser-high.ensures.other;
      high_most = rw high c.lesser-high.ensures.greatest;
    })
