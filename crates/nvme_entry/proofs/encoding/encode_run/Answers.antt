use Rattle.std.proofs.Common.{refl, arith}
use Rattle.nvme_entry.proofs.Commands.{told_run}
use Rattle.nvme_entry.proofs.Unused.{unused_run}
use Rattle.nvme_entry.proofs.encoding.encode_run.Goals as goal

pub returns-clause-command : goal.returns-clause-command
returns-clause-command c =
    told_run c.with_fields.result _ c.args.cid c.zero_based.result c.args.run c.with_fields.ensures c.halves-low.ensures c.zero_based.ensures (omega arith)
    (omega (arith, c.from.ensures, c.slot_field.ensures.value)) (omega (arith, c.slot_field.ensures.value)) refl c.halves-low_destination.ensures

pub returns-clause-rest : goal.returns-clause-rest
returns-clause-rest c =
    unused_run c.with_fields.result _ c.args.cid _ c.args.run c.with_fields.ensures (omega (arith, c.from.ensures, c.slot_field.ensures.value))
