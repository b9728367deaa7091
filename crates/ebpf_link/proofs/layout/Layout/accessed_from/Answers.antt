use Rattle.std.proofs.Common.{◌∙◌}
use Rattle.ebpf_link.proofs.layout.Layout.accessed_from.Goals as goal

pub loop-later-preserved : goal.loop-later-preserved
loop-later-preserved c = record {
  area = c.accessed_at-next.ensures.area ∙ c.loop-later.invariant.area;
  kept = λ distance is. c.loop-later.invariant.kept distance (c.accessed_at-next.ensures.kept distance is);
}

pub returns-then-next-clause-inside : goal.returns-then-next-clause-inside
returns-then-next-clause-inside c = λ access by distance is.
    c.accessed_at-first.ensures.inside access by distance (c.loop-later.invariant.kept distance is)

pub returns-then-ends_row_at-2-clause-inside : goal.returns-then-ends_row_at-2-clause-inside
returns-then-ends_row_at-2-clause-inside c = λ access by distance is.
    c.accessed_at-first.ensures.inside access by distance (c.loop-later.invariant.kept distance (c.accessed_at-next.ensures.kept distance is))
