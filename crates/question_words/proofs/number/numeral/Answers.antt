use Rattle.std.proofs.Common.{rules}
use Rattle.question_words.proofs.Numbers.{found, HasDigits-more}
use Rattle.question_words.proofs.number.numeral.Goals as goal

pub loop-byte-preserved : goal.loop-byte-preserved
loop-byte-preserved c =
    let digit = found c.to_digit.result _ _ c.in_ok-digit.digit _ c.to_digit.ensures.value c.in_ok-digit.ensures.value in
    HasDigits-more c.args.radix c.args.text.now c.loop-byte.byte-index c.from.result c.in_ok-digit.digit c.loop-byte.value c.with_digit-value.result c.loop-byte-test.true (search rules) digit c.loop-byte.invariant c.with_digit-value.ensures
