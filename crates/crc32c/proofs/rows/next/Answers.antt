use Rattle.std.proofs.Common.{◌<◌, ◌≤◌, ◌-◌, ◌%◌, get_or, arith}
use Rattle.crc32c.proofs.Shifting.{next_rows}
use Rattle.crc32c.proofs.rows.next.Goals as goal

pub returns : goal.returns
returns c =
    let index = c.args.index in
    let before = get_or c.args.rows.now (index - 256) 0 in
    let later : 256 ≤ index = omega (arith, c.if-index-lt256.false) in
    let lower : index - 256 < index = omega (arith, later) in
    let byte : before % 256 < index = omega (arith, later) in
    next_rows index before _ later (c.requires.made (index - 256) lower) (c.requires.made (before % 256) byte)
