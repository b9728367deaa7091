use Rattle.text_lines.proofs.Trimming.{trimmed_texts_are_between_blanks}
use Rattle.text_lines.proofs.laws.trimmed_texts_are_between_blanks.Goals as goal

pub returns : goal.returns
returns c = trimmed_texts_are_between_blanks
