use Rattle.std.proofs.Common.{rules, ◌≡◌, length, arith, ap}
use Rattle.std.proofs.lemmas.Bool.{leb-true, le-leb}
use Rattle.durable_machine.proofs.Unwritten.{none_spelled, size_spelled}
use Rattle.durable_machine.proofs.batch.Batch.is_empty.Goals as goal

pub returns : goal.returns
returns c =
    let batch = c.args.self.now in
    let counted : c.len.result ≡ length batch.bytes.items = search rules in (
      λ few. none_spelled batch (omega (arith, counted, leb-true c.len.result 21 few)),
      λ none. le-leb c.len.result 21 (omega (arith, counted, size_spelled batch, ap length none)),
    )
