-- That the bytes of lines stand in their order, told by the index of each line.
use Rattle.std.specs.Prelude.{◌≡◌, ℕ, ℤ, pos, ◌*◌, List, length, take, drop, slice_get, Option, Some, None, option_and_then, Ok}
use Rattle.instruction_set.specs.declared.instruction.Instruction.{Instruction}
use Rattle.instruction_set.specs.declared.instruction.Instruction.TheVariants.{Jump, JumpLong, Branch}
use Rattle.instruction_set.specs.Instruction.{target}
use Rattle.instruction_set.specs.Spelling.{Fits, spelling}
use Rattle.ebpf_asm.specs.Line.{Line, slots_in}
use Rattle.ebpf_asm.specs.Assembly.{slot_count, slot_of_line}
use Rattle.ebpf_asm.specs.LowestFault.{HaveNone, own_fault}

-- the label of the line at an index, if there is such a line and it has one
abbrev pub label_of_line : List Line → ℕ → Option (List ℕ)
label_of_line lines index = option_and_then (λ line. line.label) (slice_get lines index)

-- a jump with this distance, and all else as it is
abbrev pub with_distance : ℤ → Instruction → Option Instruction
with_distance distance (Jump unknown) = Some (Jump distance)
with_distance distance (JumpLong unknown) = Some (JumpLong distance)
with_distance distance (Branch width relation dst source unknown) = Some (Branch width relation dst source distance)
with_distance distance _ = None

-- the jump of the line at an index leads to the slot of the line with this label, and no other line has that (RFC 9669, 4.3)
pub record LeadsToLabel (lines : List Line) (index : ℕ) (label : List ℕ) (jump made : Instruction) : Type 0 where
  pub at : ℕ
  pub labelled : label_of_line lines at ≡ Some label
  pub alone : (other : ℕ) → label_of_line lines other ≡ Some label → other ≡ at
  pub distance : ℤ
  pub leads : target (slot_of_line lines index) distance ≡ pos (slot_of_line lines at)
  pub changed : with_distance distance jump ≡ Some made

-- the instruction that is made of a line's: the same, unless that names a label, to which it leads then
abbrev pub IsMadeOf : List Line → ℕ → Option (List ℕ) → Instruction → Instruction → Type 0
IsMadeOf lines index None instruction made = made ≡ instruction
IsMadeOf lines index (Some label) instruction made = LeadsToLabel lines index label instruction made

-- the slots of the line at an index have the bytes of its instruction, whose registers and numbers fit their fields
pub record IsInPlace (lines : List Line) (bytes : List ℕ) (index : ℕ) (line : Line) (instruction : Instruction) : Type 0 where
  pub made : Instruction
  pub from : IsMadeOf lines index line.target instruction made
  pub fits : Fits made
  pub spelled : take (8 * slots_in line) (drop (8 * slot_of_line lines index) bytes) ≡ spelling made

-- the bytes are those of the lines' instructions in order, and no line has a fault by itself
pub record AreInOrder (lines : List Line) (bytes : List ℕ) : Type 0 where
  pub faultless : HaveNone (own_fault lines)
  pub whole : length bytes ≡ 8 * slot_count lines
  pub each : (index : ℕ) (line : Line) (instruction : Instruction) → slice_get lines index ≡ Some line → line.instruction ≡ Ok (Some instruction)
      → IsInPlace lines bytes index line instruction
