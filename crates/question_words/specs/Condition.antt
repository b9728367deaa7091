-- Conditions without where their parts lie in memory.
use Rattle.std.specs.Prelude.{ℕ, List}
use Rattle.record_questions.specs.declared.question.Field.{Field}
use Rattle.record_questions.specs.declared.question.Comparison.{Comparison}
use Rattle.record_questions.specs.declared.question.Operand.{Operand}
use Rattle.record_questions.specs.declared.question.Predicate.{Predicate}
use Rattle.record_questions.specs.declared.question.Predicate.TheVariants as predicates

-- what a record has to meet: a field compares so with an operand, it has these bytes from an offset on, both of two are met, one
-- of them is, or it isn't met
pub data Condition : Type 0 where
  Compare : (field : Field) (comparison : Comparison) (operand : Operand) → Condition
  Bytes : (offset : ℕ) (bytes : List ℕ) → Condition
  And : (first second : Condition) → Condition
  Or : (first second : Condition) → Condition
  Not : (condition : Condition) → Condition

-- what a predicate says
abbrev pub said : Predicate → Condition
said (predicates.Compare field comparison operand) = Compare field comparison operand
said (predicates.Bytes offset bytes) = Bytes offset bytes.items
said (predicates.And' x p y q) = And (said p) (said q)
said (predicates.Or' x p y q) = Or (said p) (said q)
said (predicates.Not' x p) = Not (said p)
