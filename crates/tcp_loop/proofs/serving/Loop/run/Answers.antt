use Rattle.std.proofs.Common.{arith}
use Rattle.tcp_loop.proofs.Waits.{ends_next, fair_next, holds_next, made_more, owes_nothing_at}
use Rattle.tcp_loop.proofs.serving.Loop.run.Goals as goal

pub loop-made-init : goal.loop-made-init
loop-made-init g c = (c.requires, λ opened begun h. h, λ o f. f, λ ends. ends, omega arith)

pub is_fair-requires : goal.is_fair-requires
is_fair-requires g c = c.loop-made.invariant.0

pub bytes-requires : goal.bytes-requires
bytes-requires g c = record { ready = c.loop-made.invariant.0 }

pub step-requires-clause-ready : goal.step-requires-clause-ready
step-requires-clause-ready g c = c.loop-made.invariant.0

pub loop-made-preserved : goal.loop-made-preserved
loop-made-preserved g c = (
  c.step.ensures.ready,
  λ opened begun h. holds_next _ _ _ _ c.bytes.result.now _ _ _ c.make-answer.ensures.made c.operation.ensures c.as_slice.ensures.value
      g.T.KeptTarget.means opened begun _ _ _ _
      (c.step.ensures.made c.bytes.result.now c.bytes.ensures.carries opened begun _ (c.loop-made.invariant.1 opened begun h)),
  λ o f. fair_next _ _ _ _ c.bytes.result.now _ _ _ c.make-answer.ensures.made c.operation.ensures c.as_slice.ensures.value
      g.T.KeptTarget.means g.T.KeptTarget.free o _ _ _ _
      (c.step.ensures.fair c.bytes.result.now o _ (c.loop-made.invariant.2 o f).fair)
      (owes_nothing_at g.T.KeptTarget.means g.T.KeptTarget.free o _ _ _ _ (c.is_fair.ensures o _ (c.loop-made.invariant.2 o f).fair))
      (c.loop-made.invariant.2 o f).never,
  λ ends. ends_next _ _ _ _ c.bytes.result.now _ _ _ c.make-answer.ensures.made c.operation.ensures c.as_slice.ensures.value _ _
      c.step.ensures.ends (c.loop-made.invariant.3 ends),
  (let more = made_more _ _ c.make-answer.ensures.made in omega (arith, more, c.loop-made.invariant.4)),
)
