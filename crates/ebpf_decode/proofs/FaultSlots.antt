-- Where the faults of a program's bytes lie.
use Rattle.std.proofs.Common.{◌≡◌, ℕ, suc, ◌+◌, ◌/◌, ◌<◌, ◌≤◌, Bool, false, option_map, List, [], ◌∷◌, length, Option, Some, None, Result, Ok, Err, refl, arith}
use Rattle.ebpf_decode.specs.declared.fault.Fault.{Fault}
use Rattle.ebpf_decode.specs.declared.fault.FaultKind.{FaultKind}
use Rattle.instruction_set.specs.declared.fields.Fields.{Fields}
use Rattle.instruction_set.specs.declared.instruction.Instruction.{Instruction}
use Rattle.ebpf_decode.specs.Laws.{FaultIsInside}
use Rattle.ebpf_decode.specs.Reading.{at_first_slot, begins_wide, begun, length_fault, read_slots, slots_at, then_read}
use Rattle.common_definitions.specs.Readings.{unless_fault}
use Rattle.common_definitions.proofs.Proved.{fault_behind}
use Rattle.program_interface.specs.declared.TheConstants.{MOST_SLOTS}
use Rattle.std.proofs.lemmas.Result.{IfErr-at_err}
use Rattle.std.specs.List.{slice_get}
use Rattle.ebpf_decode.proofs.Programs.{few_slots}
use Rattle.ebpf_decode.proofs.Slots.{length-slots}

-- a fault lies at the slot that is read, or behind it
fault_from : (s count : ℕ) (fault : Fault) (after : Bool → Result (List (Option Instruction)) Fault)
    → ((wide : Bool) → after wide ≡ Err fault → fault.slot < s + 1 + count)
    → (found : Result (Option Instruction) FaultKind) → then_read found s after ≡ Err fault → fault.slot < s + suc count
fault_from s count fault after later (Err kind) e = let at : fault.slot ≡ s = IfErr-at_err (λ f. f.slot ≡ s) e refl in omega arith
fault_from s count fault after later (Ok found) e =
    let behind : fault.slot < s + 1 + count = later (begins_wide found) (fault_behind (found ∷ []) (after (begins_wide found)) fault e) in
    omega arith

fault_within : (second : Bool) (s : ℕ) (fs : List Fields) (fault : Fault) → read_slots second s fs ≡ Err fault → fault.slot < s + length fs
fault_within second s [] fault e = absurd cc
fault_within second s (f ∷ rest) fault e =
    fault_from s (length rest) fault (λ wide. read_slots wide (s + 1) rest)
    (λ wide h. fault_within wide (s + 1) rest fault h)
    (begun second f (slice_get rest 0)) e

by_length : (bytes : List ℕ) (fault : Fault) (found : Option FaultKind) → length_fault (length bytes) ≡ found
    → unless_fault (option_map at_first_slot found) (read_slots false 0 (slots_at (length bytes / 8) bytes)) ≡ Err fault → fault.slot < MOST_SLOTS
by_length bytes fault (Some kind) is e = let at : fault.slot ≡ 0 = IfErr-at_err (λ f. f.slot ≡ 0) e refl in omega arith
by_length bytes fault None is e =
    let within : fault.slot < 0 + length (slots_at (length bytes / 8) bytes) = fault_within false 0 (slots_at (length bytes / 8) bytes) fault e in
    let few : length bytes / 8 ≤ MOST_SLOTS = few_slots bytes is in
    let long : length (slots_at (length bytes / 8) bytes) ≡ length bytes / 8 = length-slots (length bytes / 8) bytes in
    omega arith

pub fault_is_inside : FaultIsInside
fault_is_inside bytes fault e = by_length bytes fault (length_fault (length bytes)) refl e
