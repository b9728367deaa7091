use Rattle.tcp_loop.proofs.serving.Loop.part_is_done.Goals as goal

pub returns-in-Made-clause-keeps : goal.returns-in-Made-clause-keeps
returns-in-Made-clause-keeps g c = rw c.in-Made.is (λ opened begun trace h. h)

pub returns-in-Filled-clause-keeps : goal.returns-in-Filled-clause-keeps
returns-in-Filled-clause-keeps g c = rw c.in-Filled.is (λ opened begun trace h. h)

pub returns-in-Flushed-clause-keeps : goal.returns-in-Flushed-clause-keeps
returns-in-Flushed-clause-keeps g c = rw c.in-Flushed.is c.part_is_flushed.ensures.keeps

pub returns-in-Named-clause-keeps : goal.returns-in-Named-clause-keeps
returns-in-Named-clause-keeps g c = rw c.in-Named.is (λ opened begun trace h. h)

pub returns-in-Placed-clause-keeps : goal.returns-in-Placed-clause-keeps
returns-in-Placed-clause-keeps g c = rw c.in-Placed.is c.call_done.ensures.keeps

pub returns-in-Discarded-clause-keeps : goal.returns-in-Discarded-clause-keeps
returns-in-Discarded-clause-keeps g c = rw c.in-Discarded.is c.call_done-in-Discarded.ensures.keeps

pub returns-in-Flushed-clause-ends : goal.returns-in-Flushed-clause-ends
returns-in-Flushed-clause-ends g c = c.part_is_flushed.ensures.ends

pub returns-in-Placed-clause-ends : goal.returns-in-Placed-clause-ends
returns-in-Placed-clause-ends g c = c.call_done.ensures.ends

pub returns-in-Discarded-clause-ends : goal.returns-in-Discarded-clause-ends
returns-in-Discarded-clause-ends g c = c.call_done-in-Discarded.ensures.ends
