use Rattle.std.proofs.Common.{append_assoc, refl}
use Rattle.command_files.proofs.lines.of_field.Goals as goal

pub returns : goal.returns
returns c = rw (c.expected-expected.ensures, c.number.ensures) (simp append_assoc refl)
