use Rattle.std.specs.Prelude.{◌≡◌, None}
use Rattle.ebpf_object.specs.Sections.{first_overlap}
use Rattle.ebpf_object.proofs.section.first_overlap.Given as goal

abbrev pub invariant-loop-number : goal.invariant-loop-number
invariant-loop-number l = first_overlap l.bytes l.section l.number ≡ None
