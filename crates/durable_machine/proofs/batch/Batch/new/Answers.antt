use Rattle.std.proofs.Common.{rules, ◌≡◌, [], length, arith, ap}
use Rattle.durable_machine.proofs.Unwritten.{none_spelled}
use Rattle.durable_machine.proofs.batch.Batch.new.Goals as goal

pub returns : goal.returns
returns c =
    let none : c.new.result.items ≡ [] = search rules in
    none_spelled _ (omega (arith, ap length none))
