-- What records have in columns, and how numbers are printed.
use Rattle.std.specs.Prelude.{◌≡◌, ℕ, ℤ, ◌-◌, ◌+◌, ◌≤◌, ◌++◌, length, codes, List}
use Rattle.std.specs.Fmt.{signed_decimal}
use Rattle.instruction_set.specs.Instruction.{size_of}
use Rattle.record_questions.specs.Question.{bytes_in, value_of}
use Rattle.record_questions.specs.declared.question.Field.{Field}
use Rattle.command_query.specs.declared.columns.Kind.{Kind}
use Rattle.command_query.specs.declared.columns.Kind.TheVariants as kind
use Rattle.command_query.specs.declared.cells.Cell.{Cell}
use Rattle.command_query.specs.declared.cells.Cell.TheVariants.{Number, Text, Bytes, Nothing}

-- a field is among the bytes of a record from this offset on
abbrev pub LiesAmong : ℕ → Field → List ℕ → Type 0
LiesAmong from f bytes = (from ≤ f.offset) × (f.offset - from + size_of f.size ≤ length bytes)

-- a number is the value of a field in each record that has these bytes in a range from this offset on
abbrev pub IsValueIn : ℕ → Field → List ℕ → ℤ → Type 0
IsValueIn from f bytes number = (r : List ℕ) (size : ℕ) → bytes ≡ bytes_in (record { offset = from; size = size }) r → number ≡ value_of f r

-- a cell has a field of the records that have these bytes in a range from this offset on: its value, or nothing where it isn't among them
abbrev pub HasField : ℕ → Field → List ℕ → Cell → Type 0
HasField from f bytes (Number number) = LiesAmong from f bytes × IsValueIn from f bytes number
HasField from f bytes Nothing = ¬ LiesAmong from f bytes
HasField from f bytes (Text text) = ⊥
HasField from f bytes (Bytes these) = ⊥

-- the same of a column of numbers
abbrev pub HasColumn : ℕ → Kind → List ℕ → Cell → Type 0
HasColumn from (kind.Number f) bytes cell = HasField from f bytes cell
HasColumn from (kind.Text offset size) bytes cell = Unit {0}
HasColumn from (kind.Bytes offset size) bytes cell = Unit {0}

-- of a number its digits are added, and of nothing this
abbrev pub AddsNumber : List ℕ → Cell → List ℕ → List ℕ → Type 0
AddsNumber nothing (Number number) old new = new ≡ old ++ signed_decimal number
AddsNumber nothing Nothing old new = new ≡ old ++ nothing
AddsNumber nothing (Text text) old new = Unit {0}
AddsNumber nothing (Bytes these) old new = Unit {0}
