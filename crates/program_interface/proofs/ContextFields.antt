-- A context's bytes tell its fields.
use Rattle.std.proofs.Common.{drop, refl, arith}
use Rattle.byteorder.specs.Numbers.{little_number-reads_back}
use Rattle.program_interface.specs.Context.{ContextsTell, context_bytes}

pub contexts_tell : ContextsTell
contexts_tell c fields =
    let bytes = context_bytes c in
    record {
      size = refl;
      lba = little_number-reads_back 8 c.lba (drop 8 bytes) (omega (arith, fields.lba));
      index = little_number-reads_back 4 c.index (drop 12 bytes) (omega (arith, fields.index));
      count = little_number-reads_back 4 c.count (drop 16 bytes) (omega (arith, fields.count));
      block = little_number-reads_back 4 c.block (drop 20 bytes) (omega (arith, fields.block));
      argument = little_number-reads_back 4 c.argument (drop 24 bytes) (omega (arith, fields.argument));
      zeros = refl;
    }
