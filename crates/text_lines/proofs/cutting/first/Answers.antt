use Rattle.memchr.specs.Find.{is_byte}
use Rattle.text_lines.proofs.Positions.{first_position}
use Rattle.text_lines.proofs.cutting.first.Goals as goal

pub returns-clause-value : goal.returns-clause-value
returns-clause-value c = first_position (is_byte c.args.byte) c.args.text.now c.memchr.result c.memchr.ensures
