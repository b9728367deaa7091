use Rattle.tcp_loop.proofs.Progress.{fail_begin}
use Rattle.tcp_loop.specs.Fair.{Begins}
use Rattle.tcp_loop.proofs.serving.Loop.begin_round.Goals as goal

pub returns-then-given-clause-fair : goal.returns-then-given-clause-fair
returns-then-given-clause-fair g c = λ o trace f. c.fail.ensures.fair Begins o trace (c.give_turns-given.ensures.fair o trace f)

pub returns-then-advanced-clause-fair : goal.returns-then-advanced-clause-fair
returns-then-advanced-clause-fair g c = λ o trace f.
    c.fail-then-advanced.ensures.fair Begins o trace (c.advance_all-advanced.ensures.fair o trace (c.give_turns-given.ensures.fair o trace f))

pub returns-clause-fair : goal.returns-clause-fair
returns-clause-fair g c = λ o trace f. c.poll.ensures.fair o trace (c.advance_all-advanced.ensures.fair o trace (c.give_turns-given.ensures.fair o trace f))

pub returns-then-given-clause-ends : goal.returns-then-given-clause-ends
returns-then-given-clause-ends g c = fail_begin _ c.fail.ensures.ends

pub returns-then-advanced-clause-ends : goal.returns-then-advanced-clause-ends
returns-then-advanced-clause-ends g c = fail_begin _ c.fail-then-advanced.ensures.ends

pub returns-clause-ends : goal.returns-clause-ends
returns-clause-ends g c = c.poll.ensures.ends

pub returns-clause-keeps : goal.returns-clause-keeps
returns-clause-keeps g c = λ opened begun trace h. c.poll.ensures.keeps opened begun trace
    (c.advance_all-advanced.ensures.attends c.if-advanced.false opened begun trace
    (c.give_turns-given.ensures.attends c.if-given.false opened begun trace h))
