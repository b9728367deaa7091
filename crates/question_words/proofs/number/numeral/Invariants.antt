use Rattle.std.proofs.Common.{take}
use Rattle.question_words.proofs.Numbers.{HasDigits}
use Rattle.question_words.proofs.number.numeral.Given as goal

abbrev pub invariant-loop-byte : goal.invariant-loop-byte
invariant-loop-byte l = HasDigits l.radix (take l.byte-index l.text) l.value
