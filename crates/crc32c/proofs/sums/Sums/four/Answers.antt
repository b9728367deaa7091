use Rattle.std.proofs.Common.{rules, ◌<◌}
use Rattle.crc32c.proofs.Shifting.{by_rows}
use Rattle.crc32c.proofs.sums.Sums.four.Goals as goal

pub returns : goal.returns
returns c =
    let first : c.args.first < 256 = search rules in
    let second : c.args.second < 256 = search rules in
    let third : c.args.third < 256 = search rules in
    let fourth : c.args.fourth < 256 = search rules in
    by_rows c.args.zeros c.args.first c.args.second c.args.third c.args.fourth first second third fourth _ _ _ _
    c.row.ensures c.row-2.ensures c.row-3.ensures c.row-4.ensures
