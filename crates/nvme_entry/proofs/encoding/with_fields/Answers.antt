use Rattle.std.proofs.Common.{◌≡◌, ◌+◌, ◌*◌, ◌%◌, ◌^◌, arith}
use Rattle.nvme_entry.proofs.Encodings.{dwords_have}
use Rattle.nvme_entry.proofs.encoding.with_fields.Goals as goal

pub returns : goal.returns
returns c =
    let first : c.from.result + (c.from-2.result * 2 ^ 16) % 2 ^ 32 ≡ c.code.result + c.args.cid * 2 ^ 16 = omega (arith, c.from.ensures, c.from-2.ensures) in
    dwords_have c.write_u32_into.new.dst _ c.code.result c.args.cid c.args.opcode c.args.fields c.write_u32_into.ensures first (omega arith) (omega arith) c.code.ensures
    record { cdw10 = omega arith; cdw11 = omega arith; cdw12 = omega arith; cdw13 = omega arith; cdw14 = omega arith; cdw15 = omega arith }
