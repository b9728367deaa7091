use Rattle.std.proofs.Common.{refl, sym, []}
use Rattle.text_lines.proofs.LineLemmas.{cut_line, lines-last}
use Rattle.text_lines.proofs.laws.lines_are_cut.Goals as goal

pub returns-clause-cut : goal.returns-clause-cut
returns-clause-cut c = cut_line

pub returns-clause-last : goal.returns-clause-last
returns-clause-last c = λ text some none. lines-last text text [] some (sym none) refl refl

pub returns-clause-none : goal.returns-clause-none
returns-clause-none c = refl
