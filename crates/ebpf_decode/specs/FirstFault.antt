-- What a refusal tells: which fault, where, and that nothing before it is at fault.
use Rattle.std.specs.Prelude.{◌≡◌, ℕ, ◌+◌, ◌/◌, cond, List, [], ◌∷◌, ◌++◌, length, take, slice_get, Option, Some, None, is_some, ◌⊎◌}
use Rattle.std.specs.List.{AllByRecursion, flat_map}
use Rattle.ebpf_decode.specs.declared.fault.Fault.{Fault}
use Rattle.ebpf_decode.specs.declared.fault.FaultKind.{FaultKind}
use Rattle.ebpf_decode.specs.declared.fault.FaultKind.TheVariants as kinds
use Rattle.ebpf_decode.specs.declared.opcode.Opcode.{Opcode}
use Rattle.instruction_set.specs.declared.fields.Fields.{Fields}
use Rattle.instruction_set.specs.declared.instruction.Instruction.{Instruction}
use Rattle.instruction_set.specs.Program.{is_wide}
use Rattle.instruction_set.specs.Spelling.{Fits, first_slot, second_slot, slots_spelled}
use Rattle.common_definitions.specs.Checks.{demand}
use Rattle.common_definitions.specs.FirstCheck.{FailsFirst, NoneFails}
use Rattle.ebpf_decode.specs.Opcodes.{opcode_named}
use Rattle.ebpf_decode.specs.Reading.{checks, instruction_with, length_checks, slots_at}

-- the checks of a slot whose opcode is known: those of its fields, and at last of their values
abbrev pub slot_checks : Opcode → Fields → Option Fields → List (Option FaultKind)
slot_checks opcode f next = checks opcode f next ++ demand (is_some (instruction_with opcode f next)) kinds.Value ∷ []

-- the kind that is told of a slot, by what its opcode names
abbrev pub IsTold : FaultKind → Option Opcode → Fields → Option Fields → Type 0
IsTold kind None f next = kind ≡ kinds.Opcode
IsTold kind (Some opcode) f next = FailsFirst (slot_checks opcode f next) kind

-- an instruction that begins at a slot: it is spelled by the slot, and by the next one where it is wide
pub record Begins (f : Fields) (next : Option Fields) (i : Instruction) : Type 0 where
  pub fits : Fits i
  pub first : first_slot i ≡ f
  pub second : second_slot i ≡ cond (is_wide i) next None

-- a fault of the length is told at slot 0
pub record IsOfLength (bytes : List ℕ) (fault : Fault) : Type 0 where
  pub slot : fault.slot ≡ 0
  pub told : FailsFirst (length_checks (length bytes)) fault.kind

-- a fault of one of these slots
pub record IsOfSlot (slots : List Fields) (fault : Fault) : Type 0 where
  -- the slots before it are instructions,
  pub before : List Instruction
  pub fits : AllByRecursion Fits before
  pub spelled : take fault.slot slots ≡ flat_map slots_spelled before
  -- and at the fault's own slot
  pub fields : Fields
  pub here : slice_get slots fault.slot ≡ Some fields
  -- no instruction begins, for the reason that is told
  pub begins_none : (i : Instruction) → ¬ Begins fields (slice_get slots (fault.slot + 1)) i
  pub told : IsTold fault.kind (opcode_named fields.opcode) fields (slice_get slots (fault.slot + 1))

-- a fault of a slot, of bytes whose length has none
abbrev pub IsBehindLength : List ℕ → Fault → Type 0
IsBehindLength bytes fault = NoneFails (length_checks (length bytes)) × IsOfSlot (slots_at (length bytes / 8) bytes) fault

-- the first fault of some bytes: that of their length, or else that of the slot that has whole instructions alone before it
-- and at which none begins
abbrev pub IsFirstFault : List ℕ → Fault → Type 0
IsFirstFault bytes fault = IsOfLength bytes fault ⊎ IsBehindLength bytes fault
