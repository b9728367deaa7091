use Rattle.tcp_loop.proofs.Progress.{fail_call}
use Rattle.tcp_loop.specs.Fair.{Writes}
use Rattle.tcp_loop.proofs.serving.Loop.part_is_not_done.Goals as goal

pub returns-in-Made-clause-keeps : goal.returns-in-Made-clause-keeps
returns-in-Made-clause-keeps g c = rw c.in-Made.is c.was_not_made.ensures.keeps

pub returns-in-Filled-clause-keeps : goal.returns-in-Filled-clause-keeps
returns-in-Filled-clause-keeps g c = rw c.in-Filled.is c.was_not_made-in-Filled.ensures.keeps

pub returns-in-Flushed-clause-keeps : goal.returns-in-Flushed-clause-keeps
returns-in-Flushed-clause-keeps g c = rw c.in-Flushed.is c.was_not_made-in-Flushed.ensures.keeps

pub returns-in-Named-clause-keeps : goal.returns-in-Named-clause-keeps
returns-in-Named-clause-keeps g c = rw c.in-Named.is (c.fail.ensures.keeps _)

pub returns-in-Placed-clause-keeps : goal.returns-in-Placed-clause-keeps
returns-in-Placed-clause-keeps g c = rw c.in-Placed.is (c.fail-in-Placed.ensures.keeps _)

pub returns-in-Discarded-clause-keeps : goal.returns-in-Discarded-clause-keeps
returns-in-Discarded-clause-keeps g c = rw c.in-Discarded.is c.call_done.ensures.keeps

pub returns-in-Named-clause-fair : goal.returns-in-Named-clause-fair
returns-in-Named-clause-fair g c = c.fail.ensures.fair (Writes 0)

pub returns-in-Placed-clause-fair : goal.returns-in-Placed-clause-fair
returns-in-Placed-clause-fair g c = c.fail-in-Placed.ensures.fair (Writes 0)

pub returns-in-Made-clause-ends : goal.returns-in-Made-clause-ends
returns-in-Made-clause-ends g c = c.was_not_made.ensures.ends

pub returns-in-Filled-clause-ends : goal.returns-in-Filled-clause-ends
returns-in-Filled-clause-ends g c = c.was_not_made-in-Filled.ensures.ends

pub returns-in-Flushed-clause-ends : goal.returns-in-Flushed-clause-ends
returns-in-Flushed-clause-ends g c = c.was_not_made-in-Flushed.ensures.ends

pub returns-in-Named-clause-ends : goal.returns-in-Named-clause-ends
returns-in-Named-clause-ends g c = fail_call c.args.self.now.finished _ c.fail.ensures.ends

pub returns-in-Placed-clause-ends : goal.returns-in-Placed-clause-ends
returns-in-Placed-clause-ends g c = fail_call c.args.self.now.finished _ c.fail-in-Placed.ensures.ends

pub returns-in-Discarded-clause-ends : goal.returns-in-Discarded-clause-ends
returns-in-Discarded-clause-ends g c = c.call_done.ensures.ends
