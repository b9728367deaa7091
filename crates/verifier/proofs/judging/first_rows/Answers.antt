use Rattle.std.proofs.Common.{arith}
use Rattle.verifier.proofs.Gifts.{start_held}
use Rattle.verifier.proofs.judging.first_rows.Goals as goal

pub returns-clause-rows : goal.returns-clause-rows
returns-clause-rows g c =
    start_held g.D.Domain.operations c.args.slots c.in_ok-rows.rows.items c.in_ok-boxed_start.field-0 c.in_ok-rows.ensures.rows
    (omega (arith, c.in_ok-rows.ensures.len, c.requires)) c.in_ok-boxed_start.ensures
