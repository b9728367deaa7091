use Rattle.tcp_loop.proofs.serving.Loop.was_told.Goals as goal

pub returns-then-fails-clause-keeps : goal.returns-then-fails-clause-keeps
returns-then-fails-clause-keeps g c = rw c.if-fails.true c.tell_failure.ensures.keeps

pub returns-else-fails-clause-keeps : goal.returns-else-fails-clause-keeps
returns-else-fails-clause-keeps g c = rw c.if-fails.false c.tell.ensures.keeps

pub returns-then-fails-clause-fair : goal.returns-then-fails-clause-fair
returns-then-fails-clause-fair g c = rw c.if-fails.true c.tell_failure.ensures.fair

pub returns-else-fails-clause-fair : goal.returns-else-fails-clause-fair
returns-else-fails-clause-fair g c = rw c.if-fails.false c.tell.ensures.fair

pub returns-then-fails-clause-ends : goal.returns-then-fails-clause-ends
returns-then-fails-clause-ends g c = rw c.if-fails.true c.tell_failure.ensures.ends

pub returns-else-fails-clause-ends : goal.returns-else-fails-clause-ends
returns-else-fails-clause-ends g c = rw c.if-fails.false c.tell.ensures.ends
