-- What is refused is the first fault.
use Rattle.std.proofs.Common.{◌≡◌, ℕ, suc, ◌+◌, ◌/◌, Bool, true, false, option_map, List, [], ◌∷◌, length, take, Option, Some, None, Result, Ok, Err, is_some, refl, sym, ap, ◌∙◌, arith, inl, inr}
use Rattle.std.proofs.lemmas.Result.{IfErr-at_err}
use Rattle.std.specs.Option.{ok_or, option_or}
use Rattle.std.specs.Result.{result_map_both}
use Rattle.std.specs.List.{AllByRecursion, flat_map, slice_get}
use Rattle.ebpf_decode.specs.declared.fault.Fault.{Fault}
use Rattle.ebpf_decode.specs.declared.fault.FaultKind.{FaultKind}
use Rattle.ebpf_decode.specs.declared.fault.FaultKind.TheVariants as kinds
use Rattle.ebpf_decode.specs.declared.opcode.Opcode.{Opcode}
use Rattle.instruction_set.specs.declared.fields.Fields.{Fields}
use Rattle.instruction_set.specs.declared.instruction.Instruction.{Instruction}
use Rattle.instruction_set.specs.Program.{is_wide}
use Rattle.instruction_set.specs.Spelling.{Fits, slots_spelled}
use Rattle.common_definitions.specs.Bytes.{AreBytes}
use Rattle.common_definitions.specs.Checks.{demand, first_failed}
use Rattle.common_definitions.specs.Readings.{unless_fault}
use Rattle.common_definitions.proofs.Proved.{fault_behind, first_failed_is_first, joined, no_fault_where_none_fails}
use Rattle.ebpf_decode.specs.FirstFault.{Begins, IsFirstFault, IsOfSlot, IsTold, slot_checks}
use Rattle.ebpf_decode.specs.Laws.{FaultIsFirst}
use Rattle.ebpf_decode.specs.Opcodes.{opcode_named}
use Rattle.ebpf_decode.specs.Reading.{at_first_slot, checks, first_fault, instruction_with, length_checks, length_fault, read, read_named, read_slots, slots_at, then_read}
use Rattle.ebpf_decode.proofs.SpelledAreRead.{read-again}
use Rattle.ebpf_decode.proofs.Bytes.{slots-fields}
use Rattle.ebpf_decode.proofs.Programs.{are-fields-in}
use Rattle.ebpf_decode.proofs.ReadAreSpelled.{AreFields, AreFieldsIn, read-takes}

-- ---- what is told of a slot

value_is_last : (fault : Option FaultKind) (found : Option Instruction) (kind : FaultKind) → unless_fault fault (ok_or found kinds.Value) ≡ Err kind
    → option_or fault (first_failed (demand (is_some found) kinds.Value ∷ [])) ≡ Some kind
value_is_last (Some told) found kind e = cc
value_is_last None (Some i) kind e = absurd cc
value_is_last None None kind e = cc

told : (named : Option Opcode) (f : Fields) (next : Option Fields) (kind : FaultKind) → read_named named f next ≡ Err kind → IsTold kind named f next
told None f next kind e = IfErr-at_err (λ k. k ≡ kinds.Opcode) e refl
told (Some opcode) f next kind e =
    let found = instruction_with opcode f next in
    let value = demand (is_some found) kinds.Value in
    (first_failed_is_first FaultKind (slot_checks opcode f next) kind).0 (joined (checks opcode f next) (value ∷ []) ∙ value_is_last (first_fault opcode f next) found kind e)

begins-none : (f : Fields) (next : Option Fields) (kind : FaultKind) (i : Instruction) → read f next ≡ Err kind → Begins f next i → ⊥
begins-none f next kind i failed begins =
    let clash : Ok i ≡ Err kind = sym (read-again i next begins.fits begins.second) ∙ ap (λ g. read g next) begins.first ∙ failed in
    absurd cc

-- ---- the slots before a fault

-- slots from number s on: those below the fault's are instructions, and its own isn't read
record Before (s : ℕ) (fs : List Fields) (fault : Fault) : Type 0 where
  place : ℕ
  at : fault.slot ≡ s + place
  instructions : List Instruction
  fits : AllByRecursion Fits instructions
  spelled : take place fs ≡ flat_map slots_spelled instructions
  fields : Fields
  here : slice_get fs place ≡ Some fields
  failed : read fields (slice_get fs (place + 1)) ≡ Err fault.kind

-- the same behind a wide instruction's second slot
record BehindSecond (s : ℕ) (fs : List Fields) (fault : Fault) : Type 0 where
  second : Fields
  others : List Fields
  are : fs ≡ second ∷ others
  after : Before (s + 1) others fault

abbrev BeforeFrom : Bool → ℕ → List Fields → Fault → Type 0
BeforeFrom false s fs fault = Before s fs fault
BeforeFrom true s fs fault = BehindSecond s fs fault

-- the slot behind a place, of more slots
one-more : (f : Fields) (fs : List Fields) (place : ℕ) → slice_get (f ∷ fs) (suc place + 1) ≡ slice_get fs (place + 1)
one-more f fs place = let places : suc place + 1 ≡ suc (place + 1) = omega arith in ap (slice_get (f ∷ fs)) places

behind : (f : Fields) (fs : List Fields) (s : ℕ) (fault : Fault) (i : Instruction) (wide : Bool) → is_wide i ≡ wide
    → Begins f (slice_get fs 0) i → BeforeFrom wide (s + 1) fs fault → Before s (f ∷ fs) fault
behind f fs s fault i false is taken b = record {
  place = suc b.place;
  at = omega (arith, b.at);
  instructions = i ∷ b.instructions;
  fits = (taken.fits, b.fits);
  spelled = rw (taken.first, taken.second, is) (ap (λ xs. f ∷ xs) b.spelled);
  fields = b.fields;
  here = b.here;
  failed = ap (read b.fields) (one-more f fs b.place) ∙ b.failed;
}
behind f fs s fault i true is taken b = record {
  place = suc (suc b.after.place);
  at = omega (arith, b.after.at);
  instructions = i ∷ b.after.instructions;
  fits = (taken.fits, b.after.fits);
  spelled =
      let next : slice_get fs 0 ≡ Some b.second = ap (λ xs. slice_get xs 0) b.are in
      rw (taken.first, taken.second, is, next) (ap (λ xs. f ∷ xs) (ap (take (suc b.after.place)) b.are ∙ ap (λ xs. b.second ∷ xs) b.after.spelled));
  fields = b.after.fields;
  here = ap (λ xs. slice_get xs (suc b.after.place)) b.are ∙ b.after.here;
  failed =
      ap (read b.after.fields) (one-more f fs (suc b.after.place))
      ∙ ap (λ xs. read b.after.fields (slice_get xs (suc b.after.place + 1))) b.are
      ∙ ap (read b.after.fields) (one-more b.second b.others b.after.place)
      ∙ b.after.failed;
}

at-first : (f : Fields) (fs : List Fields) (s : ℕ) (fault : Fault) (found : Result Instruction FaultKind) → read f (slice_get fs 0) ≡ found
    → then_read (result_map_both Some (λ kind. kind) found) s (λ wide. read_slots wide (s + 1) fs) ≡ Err fault → AreFields f → AreFieldsIn (slice_get fs 0)
    → ((wide : Bool) → read_slots wide (s + 1) fs ≡ Err fault → BeforeFrom wide (s + 1) fs fault) → Before s (f ∷ fs) fault
at-first f fs s fault (Err kind) is e fit fits later = record {
  place = 0;
  at = let slot : fault.slot ≡ s = IfErr-at_err (λ f. f.slot ≡ s) e refl in omega arith;
  instructions = [];
  fits = tt;
  spelled = refl;
  fields = f;
  here = refl;
  failed = is ∙ ap (λ k. Err k) (IfErr-at_err (λ f. kind ≡ f.kind) e refl);
}
at-first f fs s fault (Ok i) is e fit fits later =
    let taken = read-takes f (slice_get fs 0) i fit fits is in
    behind f fs s fault i (is_wide i) refl taken
    (later (is_wide i) (fault_behind (Some i ∷ []) (read_slots (is_wide i) (s + 1) fs) fault e))

before : (fs : List Fields) (second : Bool) (s : ℕ) (fault : Fault) → AllByRecursion AreFields fs → read_slots second s fs ≡ Err fault → BeforeFrom second s fs fault
before [] second s fault all e = absurd cc
before (f ∷ fs) true s fault all e = record {
  second = f;
  others = fs;
  are = refl;
  after = before fs false (s + 1) fault all.1 (fault_behind (None ∷ []) (read_slots false (s + 1) fs) fault e);
}
before (f ∷ fs) false s fault all e =
    at-first f fs s fault (read f (slice_get fs 0)) refl e all.0 (are-fields-in fs all.1) (λ wide h. before fs wide (s + 1) fault all.1 h)

of-slot : (fs : List Fields) (fault : Fault) → AllByRecursion AreFields fs → read_slots false 0 fs ≡ Err fault → IsOfSlot fs fault
of-slot fs fault all e =
    let b : Before 0 fs fault = before fs false 0 fault all e in
    let from : fault.slot ≡ 0 + b.place = b.at in
    let at : fault.slot ≡ b.place = omega arith in
    let failed : read b.fields (slice_get fs (fault.slot + 1)) ≡ Err fault.kind = ap (λ n. read b.fields (slice_get fs (n + 1))) at ∙ b.failed in
    record {
      before = b.instructions;
      fits = b.fits;
      spelled = ap (λ n. take n fs) at ∙ b.spelled;
      fields = b.fields;
      here = ap (slice_get fs) at ∙ b.here;
      begins_none = λ i begins. begins-none b.fields (slice_get fs (fault.slot + 1)) fault.kind i failed begins;
      told = told (opcode_named b.fields.opcode) b.fields (slice_get fs (fault.slot + 1)) fault.kind failed;
    }

by-length : (bytes : List ℕ) (fault : Fault) (found : Option FaultKind) → AreBytes bytes → length_fault (length bytes) ≡ found
    → unless_fault (option_map at_first_slot found) (read_slots false 0 (slots_at (length bytes / 8) bytes)) ≡ Err fault → IsFirstFault bytes fault
by-length bytes fault (Some kind) fits is e =
    inl (record {
      slot = IfErr-at_err (λ f. f.slot ≡ 0) e refl;
      told = (first_failed_is_first FaultKind (length_checks (length bytes)) fault.kind).0 (is ∙ ap (λ k. Some k) (IfErr-at_err (λ f. kind ≡ f.kind) e refl));
    })
by-length bytes fault None fits is e =
    inr ((no_fault_where_none_fails FaultKind (length_checks (length bytes))).0 is, of-slot (slots_at (length bytes / 8) bytes) fault (slots-fields (length bytes / 8) bytes fits) e)

pub fault_is_first : FaultIsFirst
fault_is_first bytes fault fits e = by-length bytes fault (length_fault (length bytes)) fits refl e
