-- The assembly of a text (profile): labels, faults and bytes.
use Rattle.std.specs.Prelude.{ℕ, ℤ, pos, ◌-ℤ◌, ◌+◌, nat_lt, if◌then◌else◌, Bool, List, [], ◌∷◌, ◌++◌, length, take, map, Option, Some, None, is_some, option_and_then, Result, Ok, Err}
use Rattle.std.specs.List.{sum_by}
use Rattle.std.specs.Map.{lookup}
use Rattle.std.specs.Str.{bytes_eq}
use Rattle.std.specs.Str.Lines.{lines}
use Rattle.instruction_set.specs.declared.instruction.Instruction.{Instruction}
use Rattle.instruction_set.specs.declared.instruction.Instruction.TheVariants.{Jump, JumpLong, Branch}
use Rattle.instruction_set.specs.Spelling.{spelling}
use Rattle.common_definitions.specs.Readings.{unless_fault, with_front}
use Rattle.program_interface.specs.declared.TheConstants.{MOST_SLOTS}
use Rattle.ebpf_asm.specs.declared.fault.Fault.{Fault}
use Rattle.ebpf_asm.specs.declared.fault.AssembleFault.{AssembleFault}
use Rattle.ebpf_asm.specs.declared.fault.AssembleFault.TheVariants as errors
use Rattle.ebpf_asm.specs.declared.fault.FaultKind.{FaultKind}
use Rattle.ebpf_asm.specs.declared.fault.FaultKind.TheVariants.{LabelTwice, TooLong, UnknownLabel, LabelTooFar}
use Rattle.ebpf_asm.specs.Operand.{short_of, long_of}
use Rattle.ebpf_asm.specs.Line.{Line, line_of, slots_in, slots_of_instruction}

-- the slots that lines take
abbrev pub slot_count : List Line → ℕ
slot_count lines = sum_by slots_in lines

-- the slot of the line at an index: as many as the lines before it take
abbrev pub slot_of_line : List Line → ℕ → ℕ
slot_of_line all index = slot_count (take index all)

-- a label, if there is one, with the slot of the next instruction
abbrev pub label_at : ℕ → Option (List ℕ) → List (List ℕ × ℕ)
label_at slot None = []
label_at slot (Some name) = (name, slot) ∷ []

-- the labels of lines with their slots, where the first line begins at this slot
abbrev pub labels_from : ℕ → List Line → List (List ℕ × ℕ)
labels_from slot [] = []
labels_from slot (line ∷ rest) = label_at slot line.label ++ labels_from (slot + slots_in line) rest

-- a map from names to slots
abbrev pub LabelMap : Type 0
LabelMap = List ℕ → Option ℕ

-- the slots that labels name
abbrev pub slot_named : List (List ℕ × ℕ) → LabelMap
slot_named labels name = lookup (λ label. bytes_eq label name) labels

-- the slot of each label of these lines
abbrev pub label_map : List Line → LabelMap
label_map all name = slot_named (labels_from 0 all) name

-- what is wrong with the instruction of a line, apart from where it jumps: it can't be read, or ends behind the last slot that
-- a program may have
abbrev pub instruction_fault : ℕ → Result (Option Instruction) FaultKind → Option FaultKind
instruction_fault slots (Err kind) = Some kind
instruction_fault slots (Ok instruction) = if nat_lt MOST_SLOTS (slots + slots_of_instruction (Ok instruction)) then Some TooLong else None

-- the fault of a line, apart from where its instruction jumps: that its label is an earlier line's, or that of its instruction
abbrev pub line_fault : Bool → ℕ → Result (Option Instruction) FaultKind → Option FaultKind
line_fault twice slots instruction = if twice then Some LabelTwice else instruction_fault slots instruction

-- is a line's label the label of one of these lines?
abbrev pub is_twice : List Line → Line → Bool
is_twice before line = is_some (option_and_then (label_map before) line.label)

-- what is wrong with a line by itself, behind the lines before it
abbrev pub fault_behind : List Line → Line → Option FaultKind
fault_behind before line = line_fault (is_twice before line) (slot_count before) line.instruction

-- the fault of this line, if it has one, and else the one of later lines
abbrev pub told_first : ℕ → Option FaultKind → Option Fault → Option Fault
told_first number (Some kind) later = Some (record { line = number; kind = kind })
told_first number None later = later

-- the fault of the lowest of these lines that has one, behind the lines before
abbrev pub first_fault : List Line → List Line → Option Fault
first_fault before [] = None
first_fault before (line ∷ rest) =
    told_first (length before + 1) (fault_behind before line) (first_fault (before ++ line ∷ []) rest)

-- the instruction with this distance, where its field takes it
abbrev pub fitting : (ℤ → Instruction) → Result ℤ FaultKind → Result Instruction FaultKind
fitting jump (Ok distance) = Ok (jump distance)
fitting jump (Err fault) = Err LabelTooFar

-- a jump with its distance, where that fits its field (RFC 9669, 4.3)
abbrev pub jump_by : Instruction → ℤ → Result Instruction FaultKind
jump_by (Jump unknown) distance = fitting Jump (short_of distance)
jump_by (JumpLong unknown) distance = fitting JumpLong (long_of distance)
jump_by (Branch width relation dst source unknown) distance = fitting (Branch width relation dst source) (short_of distance)
jump_by instruction distance = Ok instruction

-- distances count from the next slot (RFC 9669, 4.3)
abbrev pub jump_to : Instruction → ℕ → Option ℕ → Result Instruction FaultKind
jump_to instruction slot None = Err UnknownLabel
jump_to instruction slot (Some target) = jump_by instruction (pos target -ℤ pos (slot + 1))

-- an instruction at a slot, its distance leading to the label that it names
abbrev pub resolved : LabelMap → ℕ → Instruction → Option (List ℕ) → Result Instruction FaultKind
resolved labels slot instruction None = Ok instruction
resolved labels slot instruction (Some name) = jump_to instruction slot (labels name)

-- the bytes of an instruction whose jump is resolved, before those of the later lines, or the fault of its jump, on the line of
-- this number
abbrev pub before_later : ℕ → Result Instruction FaultKind → Result (List ℕ) Fault → Result (List ℕ) Fault
before_later number (Err kind) later = Err (record { line = number; kind = kind })
before_later number (Ok instruction) later = with_front (spelling instruction) later

-- the bytes of a line's instruction, its jump resolved, before those of the later lines; a line that has none adds nothing
abbrev pub bytes_in_front : LabelMap → ℕ → ℕ → Result (Option Instruction) FaultKind → Option (List ℕ) → Result (List ℕ) Fault → Result (List ℕ) Fault
bytes_in_front labels number slot (Ok (Some instruction)) target later = before_later number (resolved labels slot instruction target) later
bytes_in_front labels number slot (Ok None) target later = later
bytes_in_front labels number slot (Err kind) target later = later

-- the bytes of lines without other faults, from this line number and this slot on
abbrev pub bytes_of_lines : LabelMap → ℕ → ℕ → List Line → Result (List ℕ) Fault
bytes_of_lines labels number slot [] = Ok []
bytes_of_lines labels number slot (line ∷ rest) =
    bytes_in_front labels number slot line.instruction line.target (bytes_of_lines labels (number + 1) (slot + slots_in line) rest)

-- the lines of a text, read
abbrev pub lines_of : List ℕ → List Line
lines_of text = map line_of (lines text)

-- the bytes of the instructions of lines, or the fault that is told
abbrev pub assembled_lines : List Line → Result (List ℕ) Fault
assembled_lines all = unless_fault (first_fault [] all) (bytes_of_lines (label_map all) 1 0 all)

-- what a text gives: the bytes of its instructions, or the fault that is told
abbrev pub assembled : List ℕ → Result (List ℕ) Fault
assembled text = assembled_lines (lines_of text)

-- the fault that an error tells; want of memory tells none
abbrev pub fault_in : AssembleFault → Option Fault
fault_in errors.Memory = None
fault_in (errors.Fault fault) = Some fault
