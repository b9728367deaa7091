use Rattle.std.proofs.Common.{arith}
use Rattle.verifier.proofs.Gifts.{empty_more}
use Rattle.verifier.proofs.judging.empty_rows.Goals as goal

pub loop-preserved : goal.loop-preserved
loop-preserved g c = record {
  long = omega (arith, c.in_ok-push.ensures.len, c.loop.invariant.long);
  empty = λ s. rw c.in_ok-push.ensures.items (empty_more c.loop.rows.items c.loop.invariant.empty s);
}

pub returns-clause-rows : goal.returns-clause-rows
returns-clause-rows g c = c.loop.invariant.empty
