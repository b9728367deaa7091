-- What holds of functions whose slots are counted.
use Rattle.std.specs.Prelude.{◌≡◌, ℕ, ℤ, pos, int_le, int_lt, ◌&&◌, Bool, true, false, Option, Some, None, Ok}
use Rattle.ebpf_inline.specs.declared.frame.Frame.{Frame}
use Rattle.ebpf_inline.specs.declared.unit.TranslationUnit.{TranslationUnit}
use Rattle.ebpf_inline.specs.Checks.{is_below}
use Rattle.ebpf_inline.specs.Sizes.{body_slots, callee_slots, tree_slots}
use Rattle.instruction_set.specs.declared.instruction.Instruction.{Instruction}
use Rattle.instruction_set.specs.Instruction.{access_of, distance_of, target}

-- those of a function with a frame and of all that it calls are counted, where so many frames may stand behind it
pub record IsTree (unit : TranslationUnit) (room depth : ℕ) (frame : Frame) : Type 0 where
  pub slots : ℕ
  pub counted : tree_slots unit room depth frame ≡ Ok slots

-- and those of its body
pub record IsCounted (unit : TranslationUnit) (room : ℕ) (frame : Frame) : Type 0 where
  pub slots : ℕ
  pub counted : body_slots (callee_slots unit room frame) unit frame.function ≡ Ok slots

-- does a jump, if this is one, lead to one of so many slots?
abbrev pub lands : ℕ → ℕ → Option ℤ → Bool
lands count slot None = true
lands count slot (Some distance) = int_le (pos 0) (target slot distance) && int_lt (target slot distance) (pos count)

-- an instruction at a slot of so many leads to one of them, if by a jump, and accesses nothing below a frame of so many bytes
pub record Stands (count bytes slot : ℕ) (i : Instruction) : Type 0 where
  pub inside : lands count slot (distance_of i) ≡ true
  pub above : is_below bytes (access_of i) ≡ false
