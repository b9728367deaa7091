use Rattle.std.proofs.Common.{refl, arith}
use Rattle.nvme_entry.proofs.Commands.{told_send, bit_small}
use Rattle.nvme_entry.proofs.Unused.{unused_send}
use Rattle.nvme_entry.proofs.encoding.send.Goals as goal

pub returns-clause-command : goal.returns-clause-command
returns-clause-command c =
    let flag = bit_small c.args.select_all in
    told_send c.with_fields.result _ c.args.cid c.args.lba c.code.result c.args.action c.args.select_all c.with_fields.ensures c.halves-low.ensures (omega (arith, c.from.ensures, c.from-2.ensures)) (omega arith) c.code.ensures

pub returns-clause-rest : goal.returns-clause-rest
returns-clause-rest c =
    let flag = bit_small c.args.select_all in
    unused_send c.with_fields.result _ c.args.cid _ c.args.lba c.args.action c.args.select_all c.with_fields.ensures refl (omega (arith, c.from.ensures, c.from-2.ensures)) refl refl
