use Rattle.image_text.proofs.OnlyTextsLoad.{only_texts_load}
use Rattle.image_text.proofs.laws.only_texts_load.Goals as goal

pub returns : goal.returns
returns c = only_texts_load
