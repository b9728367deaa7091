use Rattle.std.proofs.Common.{◌==◌, ◌<◌, ℕ, below_more, subst, sym}
use Rattle.ebpf_object.specs.Objects.{relocations_in}
use Rattle.ebpf_object.specs.Sections.{section_at}
use Rattle.ebpf_object.proofs.Functions.{within_all}
use Rattle.ebpf_object.proofs.changes.first_change_in.Goals as goal

pub loop-number-preserved : goal.loop-number-preserved
loop-number-preserved c = below_more _ _ c.loop-number.invariant (sym c.in_default.ensures.value)

pub change_at-requires-clause-number : goal.change_at-requires-clause-number
change_at-requires-clause-number c =
    let bytes = c.args.object.now.bytes.now in
    within_all ((section_at bytes c.args.of).info == c.args.section) (relocations_in bytes c.args.of) c.loop-number.number
    (subst (λ (n : ℕ). c.loop-number.number < n) c.changes_in-number-end.ensures c.loop-number-test.true)
