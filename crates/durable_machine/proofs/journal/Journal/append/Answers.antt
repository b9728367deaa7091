use Rattle.std.proofs.Common.{inl}
use Rattle.std.proofs.lemmas.Result.{on_ok_weaker}
use Rattle.stored_file.proofs.Moments.{weaken, then_on}
use Rattle.durable_machine.proofs.Crash.{Around}
use Rattle.durable_machine.specs.Journal.{StandsFor}
use Rattle.durable_machine.proofs.journal.Journal.append.Goals as goal

pub open_gate-requires : goal.open_gate-requires
open_gate-requires g c =
    let settled = c.requires.settled in
    let events = c.requires.spelled in
    record {
      staged = record {
        front = settled.front;
        batches = settled.batches;
        staged = events.events;
        rests = c.in_ok-next.ensures.staged settled.front settled.batches events.events settled.rests events.sized events.are;
      };
    }

pub returns-in_err-next-clause-any_moment : goal.returns-in_err-next-clause-any_moment
returns-in_err-next-clause-any_moment g c = λ front before added rests sized are.
    weaken _ _ (StandsFor front before) (Around front before added) (c.stage.ensures.any_moment front before rests) (λ d stands. inl stands)

pub returns-clause-any_moment : goal.returns-clause-any_moment
returns-clause-any_moment g c = λ front before added rests sized are.
    then_on _ _ _ (Around front before added)
    (weaken _ _ (StandsFor front before) (Around front before added) (c.stage.ensures.any_moment front before rests) (λ d stands. inl stands))
    (c.open_gate.ensures.any_moment front before added (c.in_ok-next.ensures.staged front before added rests sized are))

pub returns-clause-acknowledged : goal.returns-clause-acknowledged
returns-clause-acknowledged g c =
    on_ok_weaker c.open_gate.result
    (λ settled. λ front before added rests sized are. settled front before added (c.in_ok-next.ensures.staged front before added rests sized are))
    c.open_gate.ensures.acknowledged
