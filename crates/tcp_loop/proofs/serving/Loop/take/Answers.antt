use Rattle.tcp_loop.proofs.Progress.{below, below_read, below_two, below_write}
use Rattle.std.proofs.Common.{◌<◌, ◌∷◌, ℕ, List, length, refl, rules, subst, sym}
use Rattle.tcp_loop.specs.Holding.{Holds}
use Rattle.tcp_loop.specs.Kept.{phase_of}
use Rattle.tcp_loop.specs.Stages.{IsReady}
use Rattle.tcp_loop.specs.declared.operation.Operation.TheVariants.{Write}
use Rattle.tcp_loop.specs.declared.stage.Stage.{Stage}
use Rattle.tcp_loop.specs.declared.stage.Stage.TheVariants as stage
use Rattle.tcp_loop.proofs.Moving.{read}
use Rattle.tcp_loop.proofs.Owing.{plain}
use Rattle.tcp_loop.specs.Fair.{Writes}
use Rattle.tcp_loop.proofs.serving.Loop.take.Goals as goal

pub returns-in-Reading-clause-made : goal.returns-in-Reading-clause-made
returns-in-Reading-clause-made g c =
    let is = subst (λ (s : Stage). IsReady s c.args.self.now.incoming.items (g.T.KeptTarget.free (g.T.KeptTarget.at c.args.self.now.target).state)) c.in-Reading.is c.requires.ready in
    let within : c.in-Reading.place < length c.args.self.now.incoming.items = search rules in
    rw c.in-Reading.is (λ carried ok opened begun trace h. c.was_read.ensures.keeps opened begun _
    (read g.T.KeptTarget.means c.in-Reading.place carried c.args.came.now c.args.answer opened begun _ trace _ _ within is.1 h))

pub returns-in-Writing-clause-made : goal.returns-in-Writing-clause-made
returns-in-Writing-clause-made g c =
    rw c.in-Writing.is (λ carried ok opened begun trace h.
    subst (λ (l : List ℕ). Holds g.T.KeptTarget.means opened begun (record { asked = Write c.in-Writing.place; carried = l; answer = c.args.answer; came = c.args.came.now } ∷ trace)
    (phase_of c.was_written.new.self.stage) (g.T.KeptTarget.at c.was_written.new.self.target) c.was_written.new.self.incoming.items c.was_written.new.self.clock)
    (sym (ok.written c.in-Writing.place refl)) (c.was_written.ensures.made c.args.came.now opened begun trace h))

pub returns-in-Accepting-clause-made : goal.returns-in-Accepting-clause-made
returns-in-Accepting-clause-made g c =
    rw c.in-Accepting.is (λ carried ok opened begun trace h. c.was_accepted.ensures.made carried c.args.came.now opened begun trace h)

pub was_read-requires-clause-within : goal.was_read-requires-clause-within
was_read-requires-clause-within g c = (subst (λ (s : Stage). IsReady s c.args.self.now.incoming.items (g.T.KeptTarget.free (g.T.KeptTarget.at c.args.self.now.target).state)) c.in-Reading.is c.requires.ready).0

pub was_read-requires-clause-empty : goal.was_read-requires-clause-empty
was_read-requires-clause-empty g c = (subst (λ (s : Stage). IsReady s c.args.self.now.incoming.items (g.T.KeptTarget.free (g.T.KeptTarget.at c.args.self.now.target).state)) c.in-Reading.is c.requires.ready).1

pub was_written-requires : goal.was_written-requires
was_written-requires g c = subst (λ (s : Stage). IsReady s c.args.self.now.incoming.items (g.T.KeptTarget.free (g.T.KeptTarget.at c.args.self.now.target).state)) c.in-Writing.is c.requires.ready

pub was_accepted-requires : goal.was_accepted-requires
was_accepted-requires g c = (subst (λ (s : Stage). IsReady s c.args.self.now.incoming.items (g.T.KeptTarget.free (g.T.KeptTarget.at c.args.self.now.target).state)) c.in-Accepting.is c.requires.ready).0

pub returns-in-Timing-clause-made : goal.returns-in-Timing-clause-made
returns-in-Timing-clause-made g c =
    rw c.in-Timing.is (λ carried ok opened begun trace h. c.was_timed.ensures.made carried c.args.came.now opened begun trace h)

pub returns-in-Called-clause-made : goal.returns-in-Called-clause-made
returns-in-Called-clause-made g c =
    rw c.in-Called.is (λ carried ok opened begun trace h. c.calls_were_timed.ensures.made carried c.args.came.now opened begun trace h)

pub was_closed-requires : goal.was_closed-requires
was_closed-requires g c = subst (λ (s : Stage). IsReady s c.args.self.now.incoming.items (g.T.KeptTarget.free (g.T.KeptTarget.at c.args.self.now.target).state)) c.in-Closing.is c.requires.ready

pub returns-in-Closing-clause-made : goal.returns-in-Closing-clause-made
returns-in-Closing-clause-made g c =
    rw c.in-Closing.is (λ carried ok opened begun trace h. c.was_closed.ensures.made carried c.args.came.now c.args.answer opened begun trace h)

pub returns-in-Reading-clause-fair : goal.returns-in-Reading-clause-fair
returns-in-Reading-clause-fair g c = rw c.in-Reading.is c.was_read.ensures.fair

pub returns-in-Writing-clause-fair : goal.returns-in-Writing-clause-fair
returns-in-Writing-clause-fair g c = rw c.in-Writing.is (λ carried. c.was_written.ensures.fair carried c.args.came.now)

pub returns-in-Accepting-clause-fair : goal.returns-in-Accepting-clause-fair
returns-in-Accepting-clause-fair g c = rw c.in-Accepting.is (λ carried. c.was_accepted.ensures.fair carried c.args.came.now)

pub returns-in-Closing-clause-fair : goal.returns-in-Closing-clause-fair
returns-in-Closing-clause-fair g c = rw c.in-Closing.is (λ carried. c.was_closed.ensures.fair carried c.args.came.now c.args.answer)

pub returns-in-Timing-clause-fair : goal.returns-in-Timing-clause-fair
returns-in-Timing-clause-fair g c = rw c.in-Timing.is (λ carried o trace f. c.was_timed.ensures.fair o _ (plain g.T.KeptTarget.means g.T.KeptTarget.free o (Writes 0) carried c.args.came.now c.args.answer trace _ _ _ f stage.Timing tt))

pub returns-in-Called-clause-fair : goal.returns-in-Called-clause-fair
returns-in-Called-clause-fair g c = rw c.in-Called.is (λ carried o trace f. c.calls_were_timed.ensures.fair o _ (plain g.T.KeptTarget.means g.T.KeptTarget.free o (Writes 0) carried c.args.came.now c.args.answer trace _ _ _ f stage.Called tt))

pub returns-in-Reading-clause-ends : goal.returns-in-Reading-clause-ends
returns-in-Reading-clause-ends g c = rw c.in-Reading.is (below_read c.in-Reading.place _ (subst (λ (s : Stage). IsReady s c.args.self.now.incoming.items (g.T.KeptTarget.free (g.T.KeptTarget.at c.args.self.now.target).state)) c.in-Reading.is c.requires.ready).0 c.was_read.ensures.ends)

pub returns-in-Writing-clause-ends : goal.returns-in-Writing-clause-ends
returns-in-Writing-clause-ends g c = rw c.in-Writing.is (below_write c.in-Writing.place _ (subst (λ (s : Stage). IsReady s c.args.self.now.incoming.items (g.T.KeptTarget.free (g.T.KeptTarget.at c.args.self.now.target).state)) c.in-Writing.is c.requires.ready) c.was_written.ensures.ends)

pub returns-in-Accepting-clause-ends : goal.returns-in-Accepting-clause-ends
returns-in-Accepting-clause-ends g c = rw c.in-Accepting.is (below_two _ _ c.was_accepted.ensures.ends)

pub returns-in-Closing-clause-ends : goal.returns-in-Closing-clause-ends
returns-in-Closing-clause-ends g c = rw c.in-Closing.is (below _ _ c.was_closed.ensures.ends)

pub returns-in-Timing-clause-ends : goal.returns-in-Timing-clause-ends
returns-in-Timing-clause-ends g c = rw c.in-Timing.is (below _ _ c.was_timed.ensures.ends)

pub returns-in-Called-clause-ends : goal.returns-in-Called-clause-ends
returns-in-Called-clause-ends g c = rw c.in-Called.is c.calls_were_timed.ensures.ends
