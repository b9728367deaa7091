use Rattle.tcp_loop.proofs.serving.Loop.was_written.Goals as goal

pub returns-clause-fair : goal.returns-clause-fair
returns-clause-fair g c = λ carried came o trace f. c.write.ensures.fair o _ (c.take_written.ensures.fair carried came o trace f)

pub returns-clause-ends : goal.returns-clause-ends
returns-clause-ends g c = c.write.ensures.ends
