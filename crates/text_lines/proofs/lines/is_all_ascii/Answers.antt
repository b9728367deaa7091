use Rattle.text_lines.proofs.Blanks.{ascii_tested}
use Rattle.text_lines.proofs.lines.is_all_ascii.Goals as goal

pub returns : goal.returns
returns c = ascii_tested c.args.line.now c.is_ascii.result c.is_ascii.ensures.cases
