use Rattle.std.proofs.Common.{refl, arith}
use Rattle.nvme_entry.proofs.Commands.{told_receive, bit_small}
use Rattle.nvme_entry.proofs.Unused.{unused_receive}
use Rattle.nvme_entry.proofs.encoding.receive.Goals as goal

pub returns-clause-command : goal.returns-clause-command
returns-clause-command c =
    let flag = bit_small c.args.partial in
    told_receive c.with_fields.result _ c.args.cid c.args.lba c.args.dwords c.code.result c.args.filter c.args.partial c.with_fields.ensures c.halves-low.ensures c.zero_based.ensures (omega (arith, c.from.ensures, c.from-2.ensures)) (omega arith) c.code.ensures

pub returns-clause-rest : goal.returns-clause-rest
returns-clause-rest c =
    let flag = bit_small c.args.partial in
    unused_receive c.with_fields.result _ c.args.cid _ c.args.lba c.args.dwords c.args.filter c.args.partial c.with_fields.ensures (omega (arith, c.from.ensures, c.from-2.ensures)) refl refl
