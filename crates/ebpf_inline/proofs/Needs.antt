-- What holds of slots and frames that nothing hinders.
use Rattle.std.proofs.Common.{◌≡◌, ◌∙◌, ℕ, zero, suc, ℤ, pos, negsuc, neg_ℤ, int_le, int_lt, ◌+◌, ◌-◌, ◌*◌, ◌%◌, ◌<◌, ◌≤◌, ◌==◌, ◌&&◌, not, nat_le, nat_lt, Bool, true, false, List, length, Option, None, Some, Result, Ok, Err, inl, inr, refl, ap, sym, subst, arith}
use Rattle.std.proofs.lemmas.Bool.{and_cases, and_from, and_left, and_parts, and_right, cases_lt, le-leb, le-ltb, leb-true, lt-ltb, ltb-false, ltb-true, not-false, not-true, or_parts}
use Rattle.std.proofs.lemmas.Option.{slice_get_past}
use Rattle.std.specs.List.{slice_get}
use Rattle.common_definitions.proofs.Proved.{demanded, no_fault, passed}
use Rattle.common_definitions.specs.Checks.{first_failed}
use Rattle.common_definitions.specs.Readings.{unless_fault}
use Rattle.ebpf_inline.proofs.Counts.{both_give, each_counted}
use Rattle.ebpf_inline.proofs.Sections.{begin_fits, begin_next}
use Rattle.ebpf_inline.specs.Data.{all_data, data_begin, section_length}
use Rattle.ebpf_inline.specs.Needs.{IsCounted, IsTree, Stands, lands}
use Rattle.ebpf_inline.specs.Checks.{address_checks, begins, call_checks, fault_of, goes_on, has_data, instruction_checks, is_below, is_beginning, jumps_astray, leaves}
use Rattle.ebpf_inline.specs.Sizes.{HasFrame, body_slots, called_frame, callee_slots, frame_checks, slots_at, slots_for_found, told, tree_slots, within}
use Rattle.ebpf_inline.specs.Units.{frame_bytes, kept_registers, sections_of, slot_at, slots_of}
use Rattle.ebpf_inline.specs.declared.unit_fault.SlotFault.{SlotFault}
use Rattle.ebpf_inline.specs.declared.unit_fault.SlotFault.TheVariants as slot_faults
use Rattle.ebpf_inline.specs.declared.unit_fault.UnitFault.{UnitFault}
use Rattle.ebpf_inline.specs.declared.unit_fault.UnitFault.TheVariants as faults
use Rattle.ebpf_inline.specs.declared.frame.Frame.{Frame}
use Rattle.ebpf_inline.specs.declared.unit.FunctionSlot.{FunctionSlot}
use Rattle.ebpf_inline.specs.declared.unit.FunctionSlot.TheVariants.{Address, Begins, Calls, Inside}
use Rattle.ebpf_inline.specs.declared.unit.TranslationUnit.{TranslationUnit}
use Rattle.instruction_set.specs.declared.access.Access.{Access}
use Rattle.instruction_set.specs.declared.instruction.Instruction.{Instruction}
use Rattle.instruction_set.specs.Instruction.{access_of, distance_of, target}
use Rattle.instruction_set.specs.Program.{slots_taken}
use Rattle.program_interface.specs.declared.TheConstants.{MOST_SLOTS}
use Rattle.program_interface.specs.declared.area.TheConstants.{STACK_BYTES}

-- ---- trees and bodies

-- where a tree is counted, there is a frame,
pub tree_is_deep : (unit : TranslationUnit) (room depth : ℕ) (frame : Frame) → IsTree unit room depth frame → 0 < depth
unfolding tree_slots
tree_is_deep unit room zero frame tree = let e : Err (faults.TooDeep frame.function) ≡ Ok tree.slots = tree.counted in absurd cc
tree_is_deep unit room (suc depth) frame tree = omega arith

-- which nothing hinders, and the body is counted
passes : (unit : TranslationUnit) (room depth : ℕ) (frame : Frame) → IsTree unit room (suc depth) frame
    → (first_failed (frame_checks unit room frame) ≡ None) × IsCounted unit room (within frame depth)
unfolding tree_slots
passes unit room depth frame tree =
    let body = body_slots (callee_slots unit room (within frame depth)) unit frame.function in
    let both = no_fault (first_failed (frame_checks unit room frame)) body tree.slots tree.counted in
    (both.0, record { slots = tree.slots; counted = both.1 })

frame_fits : (unit : TranslationUnit) (room : ℕ) (frame : Frame) → first_failed (frame_checks unit room frame) ≡ None
    → (frame.below + frame_bytes unit frame.function ≤ room) × (length (slots_of unit frame.function) ≤ MOST_SLOTS)
frame_fits unit room frame none =
    let bytes = frame_bytes unit frame.function in
    let slots = length (slots_of unit frame.function) in
    let checks = frame_checks unit room frame in
    let parts = and_parts (nat_le (frame.below + bytes) room) (bytes % 8 == 0)
    (demanded (nat_le (frame.below + bytes) room && bytes % 8 == 0) (faults.NoRoom frame.function) (passed checks 1 none)) in (
      leb-true (frame.below + bytes) room parts.0,
      leb-true slots MOST_SLOTS (demanded (nat_le slots MOST_SLOTS) faults.TooLong (passed checks 2 none)),
    )

tree_by : (unit : TranslationUnit) (room depth less : ℕ) (frame : Frame) → suc less ≡ depth → room ≤ STACK_BYTES
    → frame.function < length unit.functions.items → IsTree unit room depth frame
    → HasFrame unit (within frame less) × IsCounted unit room (within frame less)
tree_by unit room depth less frame more small there tree =
    let both = passes unit room less frame (subst (λ (n : ℕ). IsTree unit room n frame) (sym more) tree) in
    let fits = frame_fits unit room frame both.0 in
    let most : frame.below + frame_bytes unit frame.function ≤ STACK_BYTES = omega (arith, fits.0, small) in
    (record { there = there; few = fits.1; fits = most }, both.1)

-- so there may be the frame, with one less behind it, and the body is counted
pub tree_is : (unit : TranslationUnit) (room depth : ℕ) (frame : Frame) → room ≤ STACK_BYTES
    → frame.function < length unit.functions.items → IsTree unit room depth frame
    → HasFrame unit (within frame (depth - 1)) × IsCounted unit room (within frame (depth - 1))
tree_is unit room depth frame small there tree =
    let deep = tree_is_deep unit room depth frame tree in
    tree_by unit room depth (depth - 1) frame (omega (arith, deep)) small there tree

-- it is within the stack
pub tree_below : (unit : TranslationUnit) (room depth : ℕ) (frame : Frame) → room ≤ STACK_BYTES → IsTree unit room depth frame
    → frame.below ≤ STACK_BYTES
tree_below unit room depth frame small tree =
    let deep = tree_is_deep unit room depth frame tree in
    let more : suc (depth - 1) ≡ depth = omega (arith, deep) in
    let both = passes unit room (depth - 1) frame (subst (λ (n : ℕ). IsTree unit room n frame) (sym more) tree) in
    omega (arith, (frame_fits unit room frame both.0).0, small)

-- ---- slots of a body that is counted

none_told : (function slot : ℕ) (fault : Option SlotFault) → told function slot fault ≡ None → fault ≡ None
none_told function slot None e = refl
none_told function slot (Some fault) e = absurd cc

module _ (unit : TranslationUnit) (room : ℕ) (frame : Frame) (slot : ℕ) (found : FunctionSlot) where
  -- nothing hinders what stands at one, and its slots are counted
  pub stands : IsCounted unit room frame → slot < length (slots_of unit frame.function) → slot_at unit frame.function slot ≡ Some found
      → (fault_of unit (slots_of unit frame.function) (frame_bytes unit frame.function) slot (Some found) ≡ None)
      × (here : ℕ) × (slots_for_found (callee_slots unit room frame) unit frame.function slot (Some found) ≡ Ok here)
  stands counted below is =
      let of = slots_at (callee_slots unit room frame) unit frame.function in
      let each = each_counted of (length (slots_of unit frame.function)) counted.slots slot counted.counted below in
      let fault : Option FunctionSlot → Option SlotFault
      = λ at. fault_of unit (slots_of unit frame.function) (frame_bytes unit frame.function) slot at in
      let slots : Option FunctionSlot → Result ℕ UnitFault = λ at. slots_for_found (callee_slots unit room frame) unit frame.function slot at in
      let here : unless_fault (told frame.function slot (fault (Some found))) (slots (Some found)) ≡ Ok each.1
      = sym (ap (λ (at : Option FunctionSlot). unless_fault (told frame.function slot (fault at)) (slots at)) is) ∙ each.3 in
      let both = no_fault (told frame.function slot (fault (Some found))) (slots (Some found)) each.1 here in
      (none_told frame.function slot (fault (Some found)) both.0, each.1, both.1)

-- ---- an instruction

in_list : {X : Type 0} (xs : List X) (n : ℕ) (test : Option X → Bool) → test None ≡ false → test (slice_get xs n) ≡ true → n < length xs
in_list xs n test none some =
    elim (cases_lt n (length xs)) [
      | inl below ↦ below
      | inr past ↦
          let e : false ≡ true = sym none ∙ sym (ap test (slice_get_past xs n past)) ∙ some in
          absurd cc
    ]

begins_inside : (slots : List FunctionSlot) (z : ℤ) → begins slots z ≡ true → (int_le (pos 0) z && int_lt z (pos (length slots))) ≡ true
begins_inside slots (negsuc n) e = absurd cc
begins_inside slots (pos n) e =
    let below : n < length slots = in_list slots n is_beginning refl e in
    and_from (int_le (pos 0) (pos n)) (int_lt (pos n) (pos (length slots))) (le-leb 0 n (omega arith)) (lt-ltb n (length slots) below)

lands_by : (slots : List FunctionSlot) (slot : ℕ) (distance : Option ℤ) → jumps_astray slots slot distance ≡ false
    → lands (length slots) slot distance ≡ true
lands_by slots slot None e = refl
lands_by slots slot (Some distance) e =
    begins_inside slots (target slot distance) (not-false (begins slots (target slot distance)) e)

offset_less : (z : ℤ) (bytes most : ℕ) → bytes ≤ most → int_lt z (neg_ℤ (pos bytes)) ≡ false → int_lt z (neg_ℤ (pos most)) ≡ false
offset_less (pos a) bytes zero less e = le-ltb a 0 (omega arith)
offset_less (pos a) bytes (suc most) less e = refl
offset_less (negsuc a) zero most less e = absurd cc
offset_less (negsuc a) (suc bytes) zero less e = absurd (omega (arith, less))
offset_less (negsuc a) (suc bytes) (suc most) less e = le-ltb most a (omega (arith, less, ltb-false bytes a e))

below_less : (bytes most : ℕ) (access : Option Access) → bytes ≤ most → is_below bytes access ≡ false → is_below most access ≡ false
below_less bytes most None less e = refl
below_less bytes most (Some access) less e =
    elim (and_cases (access.base == 10) (int_lt access.offset (neg_ℤ (pos bytes))) e) [
      | inl other ↦ and_left (access.base == 10) (int_lt access.offset (neg_ℤ (pos most))) other
      | inr above ↦
          and_right (access.base == 10) (int_lt access.offset (neg_ℤ (pos most))) (offset_less access.offset bytes most less above)
    ]

-- an instruction that nothing hinders stands in its frame
pub instruction_stands : (unit : TranslationUnit) (slots : List FunctionSlot) (bytes below slot : ℕ) (i : Instruction)
    → below + bytes ≤ STACK_BYTES → fault_of unit slots bytes slot (Some (Begins i)) ≡ None
    → Stands (length slots) (STACK_BYTES - below) slot i
instruction_stands unit slots bytes below slot i fits none =
    let checks = instruction_checks slots bytes slot i in
    let stays : leaves slots slot i ≡ false
    = not-true (leaves slots slot i) (demanded (not (leaves slots slot i)) slot_faults.Leaves (passed checks 3 none)) in
    let above : is_below bytes (access_of i) ≡ false
    = not-true (is_below bytes (access_of i)) (demanded (not (is_below bytes (access_of i))) slot_faults.BelowFrame (passed checks 2 none)) in
    record {
      inside = lands_by slots slot (distance_of i)
          (or_parts (goes_on i && not (begins slots (pos (slot + slots_taken i)))) (jumps_astray slots slot (distance_of i)) stays).1;
      above = below_less bytes (STACK_BYTES - below) (access_of i) (omega (arith, fits)) above;
    }

-- ---- what else stands at a slot

-- a function that is called is there
pub callee_is_there : (unit : TranslationUnit) (slots : List FunctionSlot) (bytes slot callee : ℕ)
    → fault_of unit slots bytes slot (Some (Calls callee)) ≡ None → callee < length unit.functions.items
callee_is_there unit slots bytes slot callee none =
    let functions = length unit.functions.items in
    ltb-true callee functions
    (demanded (nat_lt callee functions) slot_faults.NoFunction (passed (call_checks functions slots slot callee) 0 none))

-- and its tree is counted
pub callee_is_tree : (unit : TranslationUnit) (room : ℕ) (frame : Frame) (slot callee here : ℕ)
    → slots_for_found (callee_slots unit room frame) unit frame.function slot (Some (Calls callee)) ≡ Ok here
    → IsTree unit room frame.depth (called_frame unit frame callee)
callee_is_tree unit room frame slot callee here e =
    let tree = callee_slots unit room frame callee in
    let called = both_give tree (λ (n : ℕ). Ok (2 * length (kept_registers unit callee) + n)) here e in
    record { slots = called.0; counted = called.1 }

-- a second slot has one before it
pub inside_is_second : (unit : TranslationUnit) (slots : List FunctionSlot) (bytes slot : ℕ)
    → fault_of unit slots bytes slot (Some Inside) ≡ None → 0 < slot
inside_is_second unit slots bytes zero none = absurd cc
inside_is_second unit slots bytes (suc slot) none = omega arith

data_within : (section : Option (List ℕ)) (byte : ℕ) → has_data section byte ≡ true → byte ≤ section_length section
data_within None byte e = absurd cc
data_within (Some section) byte e = leb-true byte (length section) e

-- data whose address is given is there, within the stack
pub data_is_there : (unit : TranslationUnit) (slots : List FunctionSlot) (bytes slot dst section byte : ℕ)
    → fault_of unit slots bytes slot (Some (Address dst section byte)) ≡ None → length (all_data (sections_of unit)) ≤ STACK_BYTES
    → (section < length (sections_of unit)) × (data_begin (sections_of unit) section + byte ≤ STACK_BYTES)
data_is_there unit slots bytes slot dst section byte none few =
    let sections = sections_of unit in
    let has : has_data (slice_get sections section) byte ≡ true
    = demanded (has_data (slice_get sections section) byte) slot_faults.NoData (passed (address_checks unit slots slot dst section byte) 2 none) in
    let within = data_within (slice_get sections section) byte has in (
      in_list sections section (λ at. has_data at byte) refl has,
      omega (arith, few, within, begin_next sections section, begin_fits sections (section + 1)),
    )

-- ---- by what stands at a slot of a body that is counted

module _ (unit : TranslationUnit) (room : ℕ) (frame : Frame) (slot : ℕ) where
  pub instruction_at : (i : Instruction) → HasFrame unit frame → IsCounted unit room frame
      → slot < length (slots_of unit frame.function) → slot_at unit frame.function slot ≡ Some (Begins i)
      → Stands (length (slots_of unit frame.function)) (STACK_BYTES - frame.below) slot i
  instruction_at i has counted below is =
      instruction_stands unit (slots_of unit frame.function) (frame_bytes unit frame.function) frame.below slot i has.fits
      (stands unit room frame slot (Begins i) counted below is).0

  pub second_at : IsCounted unit room frame → slot < length (slots_of unit frame.function)
      → slot_at unit frame.function slot ≡ Some Inside → 0 < slot
  second_at counted below is =
      inside_is_second unit (slots_of unit frame.function) (frame_bytes unit frame.function) slot
      (stands unit room frame slot Inside counted below is).0

  pub callee_at : (callee : ℕ) → IsCounted unit room frame → slot < length (slots_of unit frame.function)
      → slot_at unit frame.function slot ≡ Some (Calls callee)
      → (callee < length unit.functions.items) × IsTree unit room frame.depth (called_frame unit frame callee)
  callee_at callee counted below is =
      let stood = stands unit room frame slot (Calls callee) counted below is in (
        callee_is_there unit (slots_of unit frame.function) (frame_bytes unit frame.function) slot callee stood.0,
        callee_is_tree unit room frame slot callee stood.1 stood.2,
      )

  pub address_at : (dst section byte : ℕ) → IsCounted unit room frame → slot < length (slots_of unit frame.function)
      → slot_at unit frame.function slot ≡ Some (Address dst section byte) → length (all_data (sections_of unit)) ≤ STACK_BYTES
      → (section < length (sections_of unit)) × (data_begin (sections_of unit) section + byte ≤ STACK_BYTES)
  address_at dst section byte counted below is few =
      data_is_there unit (slots_of unit frame.function) (frame_bytes unit frame.function) slot dst section byte
      (stands unit room frame slot (Address dst section byte) counted below is).0 few
