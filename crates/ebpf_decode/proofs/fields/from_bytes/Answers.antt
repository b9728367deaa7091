use Rattle.std.proofs.Common.{◌≡◌, drop, refl, arith}
use Rattle.std.specs.Int.{w16, w32, cast_signed, cast_unsigned}
use Rattle.std.proofs.lemmas.Grind.{common_steps}
use Rattle.std.proofs.lemmas.Int.{to_z-of_z}
use Rattle.byteorder.specs.Endian.{little_number}
use Rattle.ebpf_decode.proofs.fields.from_bytes.Goals as goal

pub returns : goal.returns
returns c =
    let offset : cast_signed w16 (cast_unsigned w16 c.read_i16-offset.result) ≡ cast_signed w16 (little_number 2 (drop 2 c.args.bytes.now)) = grind (arith, common_steps, to_z-of_z) in
    let immediate : cast_signed w32 (cast_unsigned w32 c.read_i32-immediate.result) ≡ cast_signed w32 (little_number 4 (drop 4 c.args.bytes.now)) = grind (arith, common_steps, to_z-of_z) in
    rw (offset, immediate) refl
