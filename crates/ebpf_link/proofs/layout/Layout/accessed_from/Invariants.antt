use Rattle.std.proofs.Common.{ℤ, ◌≡◌}
use Rattle.ebpf_link.specs.Bounds.{IsWithin}
use Rattle.ebpf_link.proofs.layout.Layout.accessed_from.Given as goal

abbrev pub invariant-loop-later : goal.invariant-loop-later
invariant-loop-later l = record {
  area : l.within.area ≡ l.initial.within.area;
  kept : (distance : ℤ) → IsWithin l.within distance → IsWithin l.initial.within distance;
}
