use Rattle.std.proofs.Common.{rules, ◌≡◌, length, arith}
use Rattle.durable_machine.proofs.Unwritten.{size_spelled}
use Rattle.durable_machine.proofs.batch.Batch.len.Goals as goal

pub returns : goal.returns
returns c =
    let batch = c.args.self.now in
    let counted : c.len.result ≡ length batch.bytes.items = search rules in
    omega (arith, counted, size_spelled batch, c.saturating_sub.ensures)
