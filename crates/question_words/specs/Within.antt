-- Ranges and sets, of which a field has a value: what they are short for.
use Rattle.std.specs.Prelude.{ℕ, if◌then◌else◌, List, Result, Ok, Err, codes}
use Rattle.std.specs.Str.{bytes_eq}
use Rattle.record_questions.specs.declared.question.Field.{Field}
use Rattle.record_questions.specs.declared.question.Comparison.{Comparison}
use Rattle.record_questions.specs.declared.question.Comparison.TheVariants.{Equal, Less, LessOrEqual, GreaterOrEqual}
use Rattle.record_questions.specs.declared.question.Operand.{Operand}
use Rattle.question_words.specs.declared.fault.FaultKind.{FaultKind}
use Rattle.question_words.specs.declared.fault.FaultKind.TheVariants as kinds
use Rattle.question_words.specs.Condition.{Condition, Compare, And, Or}

-- a field is in a range: at least the one bound, and less than the other, or at most
abbrev pub range_condition : Field → Operand → Comparison → Operand → Condition
range_condition field least comparison bound = And (Compare field GreaterOrEqual least) (Compare field comparison bound)

-- a field is in a set of one, and in a set with one element more
abbrev pub one_condition : Field → Operand → Condition
one_condition field element = Compare field Equal element

abbrev pub more_condition : Condition → Field → Operand → Condition
more_condition p field element = Or p (one_condition field element)

-- how a field compares with the second bound of a range: `..` leaves it out, `..=` has it
abbrev pub bound_of : List ℕ → Result Comparison FaultKind
bound_of word =
    if bytes_eq word (codes "..") then Ok Less else (if bytes_eq word (codes "..=") then Ok LessOrEqual else Err kinds.Bound)

-- what comes next: after `in` a `{` or the first bound of a range; after that how the second bounds; after that the second; after `{`
-- the first element of a set; after an element, so that a set is whole but for what follows, a `,` or a `}`; after `,` one more
pub data Within : Type 0 where
  Begun : Within
  From : (least : Operand) → Within
  Until : (least : Operand) (comparison : Comparison) → Within
  First : Within
  Listed : (so_far : Condition) → Within
  More : (so_far : Condition) → Within
