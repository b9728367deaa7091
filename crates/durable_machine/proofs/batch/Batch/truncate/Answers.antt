use Rattle.std.proofs.Common.{rules, ◌≡◌, length, arith}
use Rattle.durable_machine.proofs.Unwritten.{cut_off, not_cut}
use Rattle.durable_machine.proofs.batch.Batch.truncate.Goals as goal

pub returns-then-length-len : goal.returns-then-length-len
returns-then-length-len c = cut_off c.args.self.now _ c.args.length c.truncate.ensures.items

pub returns-else-length-len : goal.returns-else-length-len
returns-else-length-len c =
    let counted : c.len.result ≡ length c.args.self.now.bytes.items = search rules in
    not_cut c.args.self.now c.args.length (omega (arith, counted, c.if-length-len.false))
