use Rattle.std.proofs.Common.{ℕ, arith, below_more}
use Rattle.ebpf_object.specs.First.{NoneHas}
use Rattle.ebpf_object.specs.Functions.{change_at, changes_in}
use Rattle.ebpf_object.proofs.changes.first_change.Goals as goal

pub loop-of-preserved : goal.loop-of-preserved
loop-of-preserved c =
    let bytes = c.args.object.now.bytes.now in
    below_more (λ (of : ℕ). NoneHas (change_at bytes c.args.byte of) (changes_in bytes c.args.section of)) c.loop-of.of c.loop-of.invariant c.in_default.ensures.first

pub returns-clause-first : goal.returns-clause-first
returns-clause-first c = λ of below. c.loop-of.invariant of (omega (arith, below))
