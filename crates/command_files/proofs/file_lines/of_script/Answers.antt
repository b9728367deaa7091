use Rattle.std.proofs.Common.{append_assoc, refl}
use Rattle.command_files.proofs.file_lines.of_script.Goals as goal

pub returns : goal.returns
returns c = simp append_assoc refl
