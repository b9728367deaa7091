use Rattle.std.proofs.Common.{refl, arith}
use Rattle.nvme_entry.proofs.Commands.{told_result}
use Rattle.nvme_entry.proofs.Unused.{unused_result}
use Rattle.nvme_entry.proofs.encoding.encode_result.Goals as goal

pub returns-clause-command : goal.returns-clause-command
returns-clause-command c =
    told_result c.with_fields.result _ c.args.cid c.args.slot c.with_fields.ensures c.slot_field.ensures.value (omega (arith, c.slot_field.ensures.value))

pub returns-clause-rest : goal.returns-clause-rest
returns-clause-rest c =
    unused_result c.with_fields.result _ c.args.cid _ c.args.slot c.with_fields.ensures refl refl refl refl refl
