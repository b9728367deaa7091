use Rattle.std.proofs.Common.{◌∙◌}
use Rattle.text_lines.proofs.NumberLemmas.{decimal_read, IsUtf8-digits, IsOk-utf8}
use Rattle.text_lines.proofs.number.value_of.Goals as goal

pub unwrap-requires : goal.unwrap-requires
unwrap-requires c = IsOk-utf8 c.from_utf8.result _ _ (IsUtf8-digits c.args.digits.now c.requires) c.from_utf8.ensures.cases

pub returns : goal.returns
returns c =
    let read = rw c.unwrap.ensures at c.from_utf8.ensures.cases in
    c.ok.ensures.value ∙ decimal_read c.args.digits.now c.parse.result c.requires (rw read.0 at c.parse.ensures.value.0)
