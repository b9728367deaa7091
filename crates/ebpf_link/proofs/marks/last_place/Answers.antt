use Rattle.std.proofs.Common.{arith, refl}
use Rattle.ebpf_link.proofs.FreeWords.{further, latest}
use Rattle.ebpf_link.proofs.marks.last_place.Goals as goal

pub returns-then-is_place : goal.returns-then-is_place
returns-then-is_place c = record {
  place = c.if-is_place.ensures.place refl;
  last = λ other is. latest c.args.stored c.loop-back.back other (omega arith) (c.loop-back.invariant other is) is;
}

pub loop-back-preserved : goal.loop-back-preserved
loop-back-preserved c = λ at is.
    further c.args.stored c.loop-back.back at (omega arith) (c.loop-back.invariant at is) is (c.if-is_place.ensures.none refl)

pub returns : goal.returns
returns c = λ at is. absurd (omega (arith, c.loop-back.invariant at is))
