use Rattle.tcp_loop.proofs.serving.Loop.part_is_flushed.Goals as goal

pub returns-then-wants-clause-keeps : goal.returns-then-wants-clause-keeps
returns-then-wants-clause-keeps g c = rw c.if-wants.true c.fold.ensures.keeps

pub returns-else-wants-clause-keeps : goal.returns-else-wants-clause-keeps
returns-else-wants-clause-keeps g c = rw c.if-wants.false (λ opened begun trace h. h)

pub returns-then-wants-clause-ends : goal.returns-then-wants-clause-ends
returns-then-wants-clause-ends g c = c.fold.ensures.ends
