use Rattle.tcp_loop.proofs.serving.Loop.advance_all.Goals as goal

pub loop-place-init : goal.loop-place-init
loop-place-init g c = (λ opened begun trace h. h, λ o trace f. f, λ opened begun trace h. h)

pub loop-place-preserved : goal.loop-place-preserved
loop-place-preserved g c = (
  λ opened begun trace h. c.advance_at-one.ensures.keeps opened begun trace (c.loop-place.invariant.0 opened begun trace h),
  λ o trace f. c.advance_at-one.ensures.fair o trace (c.loop-place.invariant.1 o trace f),
  λ opened begun trace h. c.advance_at-one.ensures.attends c.if-one.false opened begun trace (c.loop-place.invariant.2 opened begun trace h),
)

pub returns-then-one-clause-fair : goal.returns-then-one-clause-fair
returns-then-one-clause-fair g c = λ o trace f. c.advance_at-one.ensures.fair o trace (c.loop-place.invariant.1 o trace f)
