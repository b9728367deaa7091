use Rattle.std.proofs.Common.{ℕ, length, replicate, ◌++◌, refl}
use Rattle.durable_machine.proofs.Comparing.{sealed_as}
use Rattle.durable_machine.proofs.seal.seal_bytes.Goals as goal

pub returns : goal.returns
returns c =
    let numbers = c.extended-numbers.ensures c.to_le_bytes-number.result c.sum.ensures in
    sealed_as c.args.at (length c.args.events.now) c.args.events.now (replicate {A = ℕ} 21 254) c.to_le_bytes-number.result c.to_le_bytes-length.result c.to_le_bytes-sum.result c.put.new.bytes c.put-2.new.bytes c.put-3.new.bytes
    c.extended-numbers.result c.extended.result
    refl c.to_le_bytes-number.ensures c.to_le_bytes-length.ensures numbers
    (c.extended.ensures (c.to_le_bytes-number.result ++ c.to_le_bytes-length.result) numbers)
    c.to_le_bytes-sum.ensures refl refl c.put.ensures c.put-2.ensures c.put-3.ensures
