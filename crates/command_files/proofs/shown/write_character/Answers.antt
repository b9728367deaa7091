use Rattle.std.proofs.Common.{arith}
use Rattle.std.proofs.lemmas.Grind.{common_steps}
use Rattle.command_files.proofs.ShownLemmas.{encode_high}
use Rattle.command_files.proofs.shown.write_character.Goals as goal

pub returns-in_ok-write_byte : goal.returns-in_ok-write_byte
returns-in_ok-write_byte g c = grind (arith, common_steps, encode_high)
