use Rattle.std.proofs.Common.{rules, ◌≡◌, []}
use Rattle.std.proofs.lemmas.Result.{on_ok_weaker}
use Rattle.stored_file.proofs.Moments.{weaken}
use Rattle.durable_machine.specs.Seals.{events_of}
use Rattle.durable_machine.proofs.Waiting.{is_committed, is_durable, is_either_of, stays}
use Rattle.durable_machine.proofs.committing.commit.Goals as goal

pub returns-then-is_empty-clause-any_moment : goal.returns-then-is_empty-clause-any_moment
returns-then-is_empty-clause-any_moment g c before machine durable but =
    stays g.M.Machine.loads g.M.Machine.next _ _ _ _ but g.met.M.Machine.one_base before durable

pub returns-then-is_empty-clause-committed : goal.returns-then-is_empty-clause-committed
returns-then-is_empty-clause-committed g c machine but =
    let none : events_of c.args.waiting.now ≡ [] = search rules in
    is_durable g.M.Machine.loads g.M.Machine.next _ _ _ _ none but

pub returns-clause-any_moment : goal.returns-clause-any_moment
returns-clause-any_moment g c before machine durable but =
    weaken _ _ _ _ (c.append.ensures.any_moment but.durable.front but.durable.batches but.events but.durable.rests but.sized but.are_spelled)
    (is_either_of g.M.Machine.loads g.M.Machine.next _ _ _ _ but g.met.M.Machine.one_base before durable)

pub returns-clause-committed : goal.returns-clause-committed
returns-clause-committed g c machine but =
    on_ok_weaker c.append.result
    (λ rests. is_committed g.M.Machine.loads g.M.Machine.next _ _ _ _ but c.append.new.self.gate _
    (rests but.durable.front but.durable.batches but.events but.durable.rests but.sized but.are_spelled))
    c.append.ensures.acknowledged
