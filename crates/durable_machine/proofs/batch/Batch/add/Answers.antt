use Rattle.std.proofs.Common.{◌∙◌}
use Rattle.std.proofs.lemmas.Result.{on_ok_weaker, on_err_weaker}
use Rattle.durable_machine.proofs.Unwritten.{as_it_was, put_behind}
use Rattle.durable_machine.proofs.batch.Batch.add.Goals as goal

pub returns-clause-added : goal.returns-clause-added
returns-clause-added c =
    on_ok_weaker c.add_parts.result
    (λ added. put_behind c.args.self.now c.make_room.new.self _ _ c.in_ok-make_room.ensures.room c.in_ok-make_room.ensures.same added)
    c.add_parts.ensures.added

pub returns-clause-refused : goal.returns-clause-refused
returns-clause-refused c =
    on_err_weaker c.add_parts.result
    (λ same. as_it_was c.make_room.new.self _ same ∙ c.in_ok-make_room.ensures.same)
    c.add_parts.ensures.refused
