use Rattle.std.proofs.Common.{sym, ◌∙◌}
use Rattle.std.proofs.lemmas.Bool.{eqb-true}
use Rattle.ebpf_link.proofs.Unchanged.{by_zero, masked}
use Rattle.ebpf_link.proofs.idle.leaves_as_is.Goals as goal
use Rattle.ebpf_link.proofs.idle.leaves_as_is.Goals.{then-second-eq0, else-second-eq0}

pub returns-then-second : goal.returns-then-second
returns-then-second c = λ is.
    rw c.in-Arithmetic.is
    (rw c.in-And.is
    (masked c.args.known.now.facts c.in-Arithmetic.width c.in-Arithmetic.dst c.in-Arithmetic.source
    c.bounds-first.result c.bounds-second.result (cc) (cc) c.if-second.true (c.is_mask_over.ensures is)))

pub returns-then-is_whole : goal.returns-then-is_whole
returns-then-is_whole c = λ is. elim c.if-second-eq0.branch [
  | then-second-eq0 w ↦
      rw c.in-Arithmetic.is
      (by_zero c.args.known.now.facts c.in-Arithmetic.width c.in-Arithmetic.operation c.in-Arithmetic.dst c.in-Arithmetic.source
      c.bounds-first.result c.bounds-second.result (cc) (cc) w.if-second-eq0.true (w.is_whole-then-second-eq0.ensures (cc))
      (c.is_idle_by_zero.ensures is))
  | else-second-eq0 w ↦ absurd (w.if-second-eq0.false (eqb-true c.bounds-second.result.high 0 (sym w.value-is ∙ c.if-is_whole.true)))
]
