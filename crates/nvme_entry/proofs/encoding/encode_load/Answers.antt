use Rattle.std.proofs.Common.{refl, arith}
use Rattle.nvme_entry.proofs.Commands.{told_load}
use Rattle.nvme_entry.proofs.Unused.{unused_load}
use Rattle.nvme_entry.proofs.encoding.encode_load.Goals as goal

pub returns-clause-command : goal.returns-clause-command
returns-clause-command c =
    told_load c.with_fields.result _ c.args.cid c.args.load c.with_fields.ensures c.slot_field.ensures.value (omega (arith, c.slot_field.ensures.value)) refl refl c.requires

pub returns-clause-rest : goal.returns-clause-rest
returns-clause-rest c =
    unused_load c.with_fields.result _ c.args.cid _ c.args.load c.with_fields.ensures refl refl refl
