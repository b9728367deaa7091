use Rattle.std.proofs.Common.{rules, ◌≡◌, ◌<◌, ◌+◌, ◌*◌, arith}
use Rattle.crc32c.proofs.Shifting.{in_row}
use Rattle.crc32c.proofs.sums.Sums.row.Goals as goal

pub returns : goal.returns
returns c =
    let small : c.args.remainder < 256 = search rules in
    let same : c.from.result ≡ c.args.remainder = search rules in
    in_row c.args.self.now.rows c.args.self.now.right c.args.zeros c.args.remainder (256 * c.args.zeros + c.from.result) c.requires small (omega (arith, same))
