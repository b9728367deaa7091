use Rattle.tcp_loop.proofs.serving.Loop.give_turns.Goals as goal

pub loop-init : goal.loop-init
loop-init g c = (c.turn_once-last.ensures.keeps, c.turn_once-last.ensures.fair, c.turn_once-last.ensures.attends)

pub loop-preserved : goal.loop-preserved
loop-preserved g c = (
  λ opened begun trace h. c.turn_once-last-in-loop.ensures.keeps opened begun trace (c.loop.invariant.0 opened begun trace h),
  λ o trace f. c.turn_once-last-in-loop.ensures.fair o trace (c.loop.invariant.1 o trace f),
  λ well opened begun trace h. c.turn_once-last-in-loop.ensures.attends well opened begun trace (c.loop.invariant.0 opened begun trace h),
)
