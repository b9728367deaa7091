use Rattle.std.proofs.Common.{rules, ◌≡◌, ◌<◌, ℕ, length, get_or}
use Rattle.crc32c.proofs.Shifting.{by_fours}
use Rattle.crc32c.proofs.sums.Sums.after_sixteen.Goals as goal

pub returns : goal.returns
returns c =
    let range : c.args.remainder < 4294967296 = search rules in
    let size : length c.args.bytes.now ≡ 16 = search rules in
    let bytes : (i : ℕ) → get_or c.args.bytes.now i 0 < 256 = search rules in
    by_fours c.args.remainder c.args.bytes.now range size bytes _ _ _ _ c.four-4.ensures c.four.ensures c.four-2.ensures c.four-3.ensures
