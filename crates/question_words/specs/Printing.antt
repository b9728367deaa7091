-- The text of a condition: each field by its type and offset, numbers decimal, `!=` for bytes that aren't to be there, and parentheses
-- around each `&&` and `||` inside another condition and around what is after a `!`.
use Rattle.std.specs.Prelude.{ℕ, List, ◌++◌, codes}
use Rattle.std.specs.Fmt.{decimal}
use Rattle.hex.specs.Hex.{encode_lower}
use Rattle.question_words.specs.Condition.{Condition, Compare, Bytes, And, Or, Not}
use Rattle.question_words.specs.Field.{field_text}
use Rattle.question_words.specs.Operand.{comparison_text, operand_word}

-- a comparison of bytes
abbrev pub bytes_text : ℕ → List ℕ → List ℕ → List ℕ
bytes_text offset comparison bytes = codes "bytes@" ++ (decimal offset ++ (comparison ++ encode_lower bytes))

-- the opposite of a condition that has this text inside another, where `&&` and `||` have their parentheses
abbrev pub not_text : Condition → List ℕ → List ℕ
not_text (Bytes offset bytes) text = bytes_text offset (codes " != 0x") bytes
not_text (Compare field comparison operand) text = codes "!(" ++ (text ++ codes ")")
not_text (Not p) text = codes "!(" ++ (text ++ codes ")")
not_text (And p q) text = codes "!" ++ text
not_text (Or p q) text = codes "!" ++ text

-- a condition inside another
abbrev pub part_text : Condition → List ℕ
part_text (Compare field comparison operand) =
    field_text field ++ (codes " " ++ (comparison_text comparison ++ (codes " " ++ operand_word operand)))
part_text (Bytes offset bytes) = bytes_text offset (codes " == 0x") bytes
part_text (And p q) = codes "(" ++ (part_text p ++ (codes " && " ++ (part_text q ++ codes ")")))
part_text (Or p q) = codes "(" ++ (part_text p ++ (codes " || " ++ (part_text q ++ codes ")")))
part_text (Not p) = not_text p (part_text p)

-- a condition
abbrev pub condition_text : Condition → List ℕ
condition_text (And p q) = part_text p ++ (codes " && " ++ part_text q)
condition_text (Or p q) = part_text p ++ (codes " || " ++ part_text q)
condition_text (Compare field comparison operand) = part_text (Compare field comparison operand)
condition_text (Bytes offset bytes) = part_text (Bytes offset bytes)
condition_text (Not p) = part_text (Not p)
