use Rattle.std.proofs.Common.{◌∙◌, sym}
use Rattle.command_files.proofs.Spelling.{behind_prefix, without_prefix}
use Rattle.command_files.proofs.numbers.decimal_or_hexadecimal.Goals as goal

pub returns-in-Some : goal.returns-in-Some
returns-in-Some c = c.numeral.ensures ∙ sym (behind_prefix c.args.word.now c.in-Some.digits.now c.in-Some.ensures.cases)

pub returns-in-None : goal.returns-in-None
returns-in-None c = c.numeral-in-None.ensures ∙ sym (without_prefix c.args.word.now c.in-None.ensures.cases)
