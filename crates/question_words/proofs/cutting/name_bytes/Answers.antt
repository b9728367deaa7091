use Rattle.std.proofs.Common.{◌∙◌, ap, length}
use Rattle.std.specs.Option.{unwrap_or}
use Rattle.question_words.proofs.FirstWords.{or_all}
use Rattle.question_words.proofs.cutting.name_bytes.Goals as goal

pub returns-clause-value : goal.returns-clause-value
returns-clause-value c = c.unwrap_or.ensures ∙ ap (λ o. unwrap_or o (length c.args.text.now)) c.name_end.ensures.value ∙ or_all _ c.args.text.now
