use Rattle.std.proofs.Common.{append_assoc, refl}
use Rattle.command_files.proofs.file_lines.of_file.Goals as goal

pub returns : goal.returns
returns c = rw c.words-words.ensures (simp append_assoc refl)
