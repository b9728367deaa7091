use Rattle.std.proofs.Common.{rules, ◌<◌, ◌/◌, ℕ, ◌∙◌, ap}
use Rattle.std.specs.Int.Bits.{bit_xor}
use Rattle.crc32c.proofs.Shifting.{by_row}
use Rattle.crc32c.proofs.sums.Sums.after_byte.Goals as goal

pub returns : goal.returns
returns c =
    let byte : c.args.byte < 256 = search rules in
    ap (λ (x : ℕ). bit_xor x (c.args.remainder / 256)) c.row.ensures ∙ by_row c.args.remainder c.args.byte byte
