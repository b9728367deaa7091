-- Which fault of a text is told: that of the lowest line that has one by itself, or else that jumps amiss.
use Rattle.std.specs.Prelude.{◌≡◌, ℕ, ◌+◌, ◌<◌, List, take, slice_get, Option, Some, None, option_and_then, Result, Ok, ◌⊎◌}
use Rattle.std.specs.Result.{result_err}
use Rattle.instruction_set.specs.declared.instruction.Instruction.{Instruction}
use Rattle.ebpf_asm.specs.declared.fault.Fault.{Fault}
use Rattle.ebpf_asm.specs.declared.fault.FaultKind.{FaultKind}
use Rattle.ebpf_asm.specs.Line.{Line}
use Rattle.ebpf_asm.specs.Assembly.{LabelMap, fault_behind, label_map, resolved, slot_of_line}

-- what is wrong with the line at an index by itself, behind the lines before it
abbrev pub own_fault : List Line → ℕ → Option FaultKind
own_fault lines index = option_and_then (λ line. fault_behind (take index lines) line) (slice_get lines index)

-- what is wrong with where the instruction at a slot leads
abbrev pub jump_fault_of : LabelMap → ℕ → Result (Option Instruction) FaultKind → Option (List ℕ) → Option FaultKind
jump_fault_of labels slot (Ok (Some instruction)) target = result_err (resolved labels slot instruction target)
jump_fault_of labels slot _ target = None

-- what is wrong with where the line at an index jumps, by the labels of all lines
abbrev pub jump_fault : List Line → ℕ → Option FaultKind
jump_fault lines index =
    option_and_then (λ line. jump_fault_of (label_map lines) (slot_of_line lines index) line.instruction line.target) (slice_get lines index)

-- this fault is that of the lowest line that has one; lines count from 1
pub record IsLowest (fault_at : ℕ → Option FaultKind) (fault : Fault) : Type 0 where
  pub index : ℕ
  pub number : fault.line ≡ index + 1
  pub told : fault_at index ≡ Some fault.kind
  pub lower : (k : ℕ) → k < index → fault_at k ≡ None

-- no line has a fault
abbrev pub HaveNone : (ℕ → Option FaultKind) → Type 0
HaveNone fault_at = (k : ℕ) → fault_at k ≡ None

-- the fault is that of the lowest line that has one by itself, or where none has, of the lowest that jumps amiss
abbrev pub IsLowestFault : List Line → Fault → Type 0
IsLowestFault lines fault =
    IsLowest (own_fault lines) fault ⊎ (HaveNone (own_fault lines) × IsLowest (jump_fault lines) fault)
