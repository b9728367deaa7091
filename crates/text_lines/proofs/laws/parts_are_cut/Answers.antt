use Rattle.text_lines.proofs.PartLemmas.{split_whole, split_more, split_some}
use Rattle.text_lines.proofs.laws.parts_are_cut.Goals as goal

pub returns-clause-uncut : goal.returns-clause-uncut
returns-clause-uncut c = split_whole

pub returns-clause-cut : goal.returns-clause-cut
returns-clause-cut c = split_more

pub returns-clause-some : goal.returns-clause-some
returns-clause-some c = split_some
