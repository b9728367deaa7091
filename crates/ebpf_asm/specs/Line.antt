-- Lines (profile): an optional label, an optional statement, an optional comment.
use Rattle.std.specs.Prelude.{ℕ, ◌==◌, if◌then◌else◌, List, length, Option, Some, None, Result, Ok, Err}
use Rattle.std.specs.List.{list_all}
use Rattle.std.specs.Char.{is_ascii}
use Rattle.instruction_set.specs.declared.instruction.Instruction.{Instruction}
use Rattle.instruction_set.specs.Program.{slots_taken}
use Rattle.ebpf_asm.specs.declared.fault.FaultKind.{FaultKind}
use Rattle.ebpf_asm.specs.declared.fault.FaultKind.TheVariants.{NotAscii}
use Rattle.text_lines.specs.Cut.{cut_at, trimmed, uncommented}
use Rattle.ebpf_asm.specs.Operand.{is_label_name}
use Rattle.ebpf_asm.specs.Statement.{Statement, statement_of}

-- what a line has: a label; an instruction, or what is wrong with it; and the label that its instruction jumps to, the distance being 0 then
pub record Line : Type 0 where
  pub label : Option (List ℕ)
  pub instruction : Result (Option Instruction) FaultKind
  pub target : Option (List ℕ)

-- what stands before a colon is a label, if it is a name
abbrev pub split_label : List ℕ → Option (List ℕ × List ℕ) → Option (List ℕ) × List ℕ
split_label text None = (None, text)
split_label text (Some parts) = if is_label_name parts.0 then (Some parts.0, parts.1) else (None, text)

-- a line of a label, if it has one, and a statement, or of the fault of that
abbrev pub with_statement : Option (List ℕ) → Result Statement FaultKind → Line
with_statement label (Ok statement) = record { label = label; instruction = Ok (Some statement.0); target = statement.1 }
with_statement label (Err kind) = record { label = label; instruction = Err kind; target = None }

-- a label and the text behind it, which has a statement if it has a word
abbrev pub labelled : Option (List ℕ) → List ℕ → Line
labelled label text =
    if length text == 0 then record { label = label; instruction = Ok None; target = None } else with_statement label (statement_of text)

-- a line of a label, if it has one, and what stands behind that
abbrev pub behind_label : Option (List ℕ) × List ℕ → Line
behind_label parts = labelled parts.0 (trimmed parts.1)

-- a line without its comment: what stands before its first `:` is its label, if that is a name
abbrev pub line_in : List ℕ → Line
line_in text = behind_label (split_label text (cut_at 58 text))

-- a line: a byte that is not ASCII refuses it, in its comment too; a `;` begins a comment
unfoldable pub line_of : List ℕ → Line
line_of bytes =
    if list_all is_ascii bytes then line_in (trimmed (uncommented bytes))
    else record { label = None; instruction = Err NotAscii; target = None }

-- how many slots the instruction of a line takes
abbrev pub slots_of_instruction : Result (Option Instruction) FaultKind → ℕ
slots_of_instruction (Ok (Some instruction)) = slots_taken instruction
slots_of_instruction (Ok None) = 0
slots_of_instruction (Err kind) = 0

-- how many slots a line takes
abbrev pub slots_in : Line → ℕ
slots_in line = slots_of_instruction line.instruction
