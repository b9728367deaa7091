use Rattle.std.proofs.Common.{append_assoc, refl}
use Rattle.command_files.proofs.lines.of_cut_off.Goals as goal

pub returns : goal.returns
returns c = simp append_assoc refl
