use Rattle.image_text.proofs.CutTexts.{cut_texts_are_truncated, longer_texts_are_trailing}
use Rattle.image_text.proofs.laws.texts_have_one_length.Goals as goal

pub returns-clause-cut : goal.returns-clause-cut
returns-clause-cut c = cut_texts_are_truncated

pub returns-clause-longer : goal.returns-clause-longer
returns-clause-longer c = longer_texts_are_trailing
