use Rattle.text_lines.specs.Cut.{is_blank_byte}
use Rattle.text_lines.proofs.Positions.{first_position}
use Rattle.text_lines.proofs.cutting.first_blank.Goals as goal

pub returns-clause-value : goal.returns-clause-value
returns-clause-value c = first_position is_blank_byte c.args.text.now c.memchr2.result c.memchr2.ensures
