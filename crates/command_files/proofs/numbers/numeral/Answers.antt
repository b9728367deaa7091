use Rattle.std.proofs.Common.{◌∙◌, ◌^◌, arith}
use Rattle.std.proofs.lemmas.Bool.Decides.{not_from_Decides}
use Rattle.std.proofs.lemmas.Str.Pattern.{starts_char}
use Rattle.text_lines.proofs.Proved.{number_read}
use Rattle.command_files.proofs.Spelling.{plus_spells_none}
use Rattle.command_files.proofs.numbers.numeral.Goals as goal

pub returns-then-starts_with : goal.returns-then-starts_with
returns-then-starts_with c =
    let plus = starts_char 43 c.args.digits.now c.starts_with.result c.starts_with.ensures.cases (omega arith) (omega arith) in
    plus_spells_none (2 ^ 64) c.args.radix c.args.digits.now c.requires.most (plus.0 c.if-starts_with.true)

pub returns : goal.returns
returns c =
    let plus = starts_char 43 c.args.digits.now c.starts_with.result c.starts_with.ensures.cases (omega arith) (omega arith) in
    c.ok.ensures.value ∙ number_read 64 c.args.radix c.args.digits.now c.from_str_radix.result (not_from_Decides c.starts_with.result plus c.if-starts_with.false) c.from_str_radix.ensures.value
