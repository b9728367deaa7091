-- Faults of a question, at columns.
use Rattle.std.specs.Prelude.{ℕ, Option, Some, None, Result, Ok, Err}
use Rattle.question_words.specs.declared.fault.FaultKind.{FaultKind}
use Rattle.question_words.specs.declared.fault.WordFault.{WordFault}
use Rattle.question_words.specs.declared.fault.ReadFault.{ReadFault}
use Rattle.question_words.specs.declared.fault.ReadFault.TheVariants.{Memory, Word}

-- the fault of a question, which want of memory is not
abbrev pub fault_of : ReadFault → Option WordFault
fault_of Memory = None
fault_of (Word fault) = Some fault

-- a fault at a column
abbrev pub refused : {X : Type 0} → ℕ → FaultKind → Result X WordFault
refused column kind = Err (record { column = column; kind = kind })

-- a reading at a column
abbrev pub at : {X : Type 0} → ℕ → Result X FaultKind → Result X WordFault
at column (Ok value) = Ok value
at column (Err kind) = refused column kind

-- the same as code gives it
abbrev pub located : {X : Type 0} → ℕ → Result X FaultKind → Result X ReadFault
located column (Ok value) = Ok value
located column (Err kind) = Err (Word (record { column = column; kind = kind }))
