use Rattle.std.proofs.Common.{refl, arith}
use Rattle.nvme_entry.proofs.Encodings.{decoded_is, fuse_is}
use Rattle.nvme_entry.proofs.Unused.{unused_transfer}
use Rattle.nvme_entry.proofs.encoding.transfer.Goals as goal

pub returns-clause-command : goal.returns-clause-command
returns-clause-command c =
    let has = c.with_fields.ensures in decoded_is c.with_fields.result c.args.opcode has.code (fuse_is c.with_fields.result has.second_byte) has.namespace

pub returns-clause-rest : goal.returns-clause-rest
returns-clause-rest c =
    unused_transfer c.with_fields.result _ c.args.cid _ c.args.lba c.args.blocks c.with_fields.ensures (omega (arith, c.from.ensures)) refl refl refl
