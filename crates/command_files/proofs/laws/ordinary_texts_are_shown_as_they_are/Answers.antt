use Rattle.std.proofs.Common.{◌∙◌}
use Rattle.std.proofs.lemmas.Str.{encodes-chars}
use Rattle.std.specs.Str.{chars}
use Rattle.command_files.specs.Shown.{shown}
use Rattle.command_files.proofs.ShownLemmas.{kept}
use Rattle.command_files.proofs.laws.ordinary_texts_are_shown_as_they_are.Goals as goal

pub returns : goal.returns
unfolding shown
returns c text is_text none = kept (chars text) none ∙ encodes-chars text is_text
