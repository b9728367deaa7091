use Rattle.tcp_loop.proofs.Fairness.{tells_full}
use Rattle.std.proofs.Common.{false}
use Rattle.tcp_loop.proofs.serving.Loop.was_not_begun.Goals as goal

pub returns-in-NoRoom-clause-fair : goal.returns-in-NoRoom-clause-fair
returns-in-NoRoom-clause-fair g c = λ o trace f. c.tell-in-NoRoom.ensures.fair o trace (tells_full g.T.KeptTarget.means g.T.KeptTarget.free o trace _ _ _ false f)
