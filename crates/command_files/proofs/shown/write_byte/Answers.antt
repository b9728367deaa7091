use Rattle.std.proofs.Common.{arith}
use Rattle.std.proofs.lemmas.Grind.{common_steps}
use Rattle.std.proofs.lemmas.Str.{encode_ascii}
use Rattle.command_files.proofs.shown.write_byte.Goals as goal

pub returns : goal.returns
returns g c = grind (arith, common_steps, encode_ascii)
