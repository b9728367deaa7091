use Rattle.tcp_loop.proofs.Progress.{below, below_most, falls_call, falls_part, falls_told, same}
use Rattle.std.proofs.Common.{subst, if◌then◌else◌}
use Rattle.tcp_loop.specs.Stages.{IsReady}
use Rattle.tcp_loop.specs.declared.stage.Stage.{Stage}
use Rattle.tcp_loop.specs.declared.stage.Stage.TheVariants as stage
use Rattle.tcp_loop.proofs.Owing.{plain}
use Rattle.tcp_loop.specs.Fair.{Accepts, Over, Tells, Writes}
use Rattle.tcp_loop.proofs.serving.Loop.go_on.Goals as goal

pub was_called-requires : goal.was_called-requires
was_called-requires g c = subst (λ (s : Stage). IsReady s c.args.self.now.incoming.items (g.T.KeptTarget.free (g.T.KeptTarget.at c.args.self.now.target).state)) c.in-Calling.is c.requires.ready

pub returns-in-Polling-clause-keeps : goal.returns-in-Polling-clause-keeps
returns-in-Polling-clause-keeps g c = rw c.in-Polling.is c.happened.ensures.keeps

pub returns-in-Signalled-clause-keeps : goal.returns-in-Signalled-clause-keeps
returns-in-Signalled-clause-keeps g c = rw c.in-Signalled.is c.take_signal.ensures.keeps

pub returns-in-Calling-clause-keeps : goal.returns-in-Calling-clause-keeps
returns-in-Calling-clause-keeps g c = rw c.in-Calling.is c.was_called.ensures.keeps

pub returns-in-Placing-clause-keeps : goal.returns-in-Placing-clause-keeps
returns-in-Placing-clause-keeps g c = rw c.in-Placing.is c.was_placed.ensures.keeps

pub returns-in-Refusing-clause-keeps : goal.returns-in-Refusing-clause-keeps
returns-in-Refusing-clause-keeps g c = rw c.in-Refusing.is c.accept.ensures.keeps

pub returns-in-Telling-clause-keeps : goal.returns-in-Telling-clause-keeps
returns-in-Telling-clause-keeps g c = rw c.in-Telling.is c.was_told.ensures.keeps

pub returns-in-Ended-clause-keeps : goal.returns-in-Ended-clause-keeps
returns-in-Ended-clause-keeps g c = rw c.in-Ended.is (λ opened begun trace h. h)

pub returns-in-Polling-clause-fair : goal.returns-in-Polling-clause-fair
returns-in-Polling-clause-fair g c = rw c.in-Polling.is (c.happened.ensures.fair c.in-Polling.watched c.in-Polling.milliseconds)

pub returns-in-Signalled-clause-fair : goal.returns-in-Signalled-clause-fair
returns-in-Signalled-clause-fair g c = rw c.in-Signalled.is c.take_signal.ensures.fair

pub returns-in-Calling-clause-fair : goal.returns-in-Calling-clause-fair
returns-in-Calling-clause-fair g c = rw c.in-Calling.is (λ carried came o trace f.
    c.was_called.ensures.fair o _ (plain g.T.KeptTarget.means g.T.KeptTarget.free o (Writes 0) carried came c.args.answer trace _ _ _ f (stage.Calling c.in-Calling.call) tt))

pub returns-in-Placing-clause-fair : goal.returns-in-Placing-clause-fair
returns-in-Placing-clause-fair g c = rw c.in-Placing.is (λ carried came o trace f.
    c.was_placed.ensures.fair o _ (plain g.T.KeptTarget.means g.T.KeptTarget.free o (Writes 0) carried came c.args.answer trace _ _ _ f (stage.Placing c.in-Placing.part) tt))

pub returns-in-Refusing-clause-fair : goal.returns-in-Refusing-clause-fair
returns-in-Refusing-clause-fair g c = rw c.in-Refusing.is (λ carried came o trace f.
    c.accept.ensures.fair o _ (plain g.T.KeptTarget.means g.T.KeptTarget.free o (Accepts c.in-Refusing.more) carried came c.args.answer trace _ _ _ f (stage.Refusing c.in-Refusing.more) tt))

pub returns-in-Telling-clause-fair : goal.returns-in-Telling-clause-fair
returns-in-Telling-clause-fair g c = rw c.in-Telling.is (λ carried came o trace f.
    c.was_told.ensures.fair o _ (plain g.T.KeptTarget.means g.T.KeptTarget.free o (if c.in-Telling.fails then Over else Tells) carried came c.args.answer trace _ _ _ f (stage.Telling c.in-Telling.cause c.in-Telling.fails) tt))

pub returns-in-Ended-clause-fair : goal.returns-in-Ended-clause-fair
returns-in-Ended-clause-fair g c = rw c.in-Ended.is (λ carried came o trace f. plain g.T.KeptTarget.means g.T.KeptTarget.free o Over carried came c.args.answer trace _ _ _ f (stage.Ended c.in-Ended.done) tt)

pub returns-in-Polling-clause-ends : goal.returns-in-Polling-clause-ends
returns-in-Polling-clause-ends g c = rw c.in-Polling.is c.happened.ensures.ends

pub returns-in-Signalled-clause-ends : goal.returns-in-Signalled-clause-ends
returns-in-Signalled-clause-ends g c = rw c.in-Signalled.is (below_most _ c.take_signal.ensures.ends)

pub returns-in-Calling-clause-ends : goal.returns-in-Calling-clause-ends
returns-in-Calling-clause-ends g c = rw c.in-Calling.is (falls_call c.in-Calling.call _ _ c.was_called.ensures.ends)

pub returns-in-Placing-clause-ends : goal.returns-in-Placing-clause-ends
returns-in-Placing-clause-ends g c = rw c.in-Placing.is (falls_part c.in-Placing.part _ _ c.was_placed.ensures.ends)

pub returns-in-Refusing-clause-ends : goal.returns-in-Refusing-clause-ends
returns-in-Refusing-clause-ends g c = rw c.in-Refusing.is (below _ _ c.accept.ensures.ends)

pub returns-in-Telling-clause-ends : goal.returns-in-Telling-clause-ends
returns-in-Telling-clause-ends g c = rw c.in-Telling.is (falls_told c.in-Telling.fails _ _ c.was_told.ensures.ends)

pub returns-in-Ended-clause-ends : goal.returns-in-Ended-clause-ends
returns-in-Ended-clause-ends g c = rw c.in-Ended.is (same 0)
