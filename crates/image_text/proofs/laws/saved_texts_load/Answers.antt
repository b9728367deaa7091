use Rattle.image_text.proofs.TextsReadBack.{each_version_loads, saved_texts_load}
use Rattle.image_text.proofs.laws.saved_texts_load.Goals as goal

pub returns-clause-saved : goal.returns-clause-saved
returns-clause-saved c = saved_texts_load

pub returns-clause-each : goal.returns-clause-each
returns-clause-each c = each_version_loads
