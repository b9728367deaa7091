use Rattle.std.proofs.Common.{◌≡◌, ◌∙◌, ◌<◌, ◌≤◌, ◌-◌, ◌+◌, ◌*◌, ◌++◌, ℕ, suc, Some, length, List, Option, append_assoc, ap, arith, get_or, rules, subst, sym}
use Rattle.std.proofs.lemmas.Grind.{common_steps}
use Rattle.std.proofs.lemmas.List.{length-map}
use Rattle.std.proofs.lemmas.Option.{slice_get-get_or}
use Rattle.std.specs.List.{slice_get}
use Rattle.ebpf_inline.proofs.Needs.{address_at, callee_at, instruction_at, second_at, tree_below, tree_is, tree_is_deep}
use Rattle.ebpf_inline.proofs.Parts.{body_is, one_part_more}
use Rattle.ebpf_inline.specs.Bodies.{body_of, callee_part, part_of, parts_before, places_of, slot_part}
use Rattle.ebpf_inline.specs.Needs.{IsCounted, IsTree, Stands}
use Rattle.ebpf_inline.specs.Sizes.{HasFrame, called_frame}
use Rattle.ebpf_inline.specs.Units.{sections_of, slot_at, slots_of}
use Rattle.ebpf_inline.specs.declared.frame.Frame.{Frame}
use Rattle.ebpf_inline.specs.declared.unit.FunctionSlot.{FunctionSlot}
use Rattle.ebpf_inline.specs.declared.unit.TranslationUnit.{TranslationUnit}
use Rattle.instruction_set.specs.declared.instruction.Instruction.{Instruction}
use Rattle.program_interface.specs.declared.area.TheConstants.{STACK_BYTES}
use Rattle.ebpf_inline.proofs.body.+bodies.Goals as goal

-- what stands at a slot that is read
found_at : (unit : TranslationUnit) (function : ℕ) (slots : List FunctionSlot) (slot : ℕ) (found : FunctionSlot)
    → slots ≡ slots_of unit function → slot < length slots → found ≡ get_or slots slot found → slot_at unit function slot ≡ Some found
found_at unit function slots slot found are below is =
    ap (λ (ss : List FunctionSlot). slice_get ss slot) (sym are) ∙ slice_get-get_or slots slot found below
    ∙ ap (λ (f : FunctionSlot). Some f) (sym is)

pub push_body-within-here-requires : goal.push_body-within-here-requires
push_body-within-here-requires t c =
    tree_is_deep c.args.unit.now c.args.room c.args.frame.depth c.args.frame c.requires.tree

pub push_body-places-requires-clause-frame : goal.push_body-places-requires-clause-frame
push_body-places-requires-clause-frame t c =
    let unit = c.args.unit.now in
    let there : c.args.frame.function < length unit.functions.items = search rules in
    subst (λ (f : Frame). HasFrame unit f) (sym c.within-here.ensures)
    (tree_is unit c.args.room c.args.frame.depth c.args.frame c.requires.small there c.requires.tree).0

pub push_body-places-requires-clause-counted : goal.push_body-places-requires-clause-counted
push_body-places-requires-clause-counted t c =
    let unit = c.args.unit.now in
    let there : c.args.frame.function < length unit.functions.items = search rules in
    subst (λ (f : Frame). IsCounted unit c.args.room f) (sym c.within-here.ensures)
    (tree_is unit c.args.room c.args.frame.depth c.args.frame c.requires.small there c.requires.tree).1

pub push_body-push_slot-requires : goal.push_body-push_slot-requires
push_body-push_slot-requires t c =
    let unit = c.args.unit.now in
    let here = c.within-here.result in
    let there : c.args.frame.function < length unit.functions.items = search rules in
    let tree = tree_is unit c.args.room c.args.frame.depth c.args.frame c.requires.small there c.requires.tree in
    let has : HasFrame unit here = subst (λ (f : Frame). HasFrame unit f) (sym c.within-here.ensures) tree.0 in
    let counted : IsCounted unit c.args.room here = subst (λ (f : Frame). IsCounted unit c.args.room f) (sym c.within-here.ensures) tree.1 in
    let deep = tree_is_deep unit c.args.room c.args.frame.depth c.args.frame c.requires.tree in
    let below : c.loop-slot.slot < length c.slots_of-slots.result.now = search rules in
    let at = found_at unit c.args.frame.function c.slots_of-slots.result.now c.loop-slot.slot c.index-slots-slot.result
    c.slots_of-slots.ensures below c.index-slots-slot.is in
    let found : slot_at unit here.function c.loop-slot.slot ≡ Some c.index-slots-slot.result
    = ap (λ (f : Frame). slot_at unit f.function c.loop-slot.slot) c.within-here.ensures ∙ at in
    let depth_is : here.depth ≡ c.args.frame.depth - 1 = ap (λ (f : Frame). f.depth) c.within-here.ensures in
    let falls : 3 * here.depth + 2 < 3 * c.args.frame.depth = omega (arith, deep, depth_is) in
    search (rules, has, counted, found, falls, deep, depth_is)

pub push_body-loop-slot-preserved : goal.push_body-loop-slot-preserved
push_body-loop-slot-preserved t c =
    let unit = c.args.unit.now in
    let room = c.args.room in
    let here = c.within-here.result in
    let slot = c.loop-slot.slot in
    let called = c.args.is_called in
    let found = c.index-slots-slot.result in
    let body = callee_part unit room here in
    let front = c.args.into.now.items in
    let places : c.deref.result.now ≡ places_of unit room here = c.deref.ensures.value ∙ c.in_ok-places.ensures.value in
    let below : slot < length c.slots_of-slots.result.now = search rules in
    let at = found_at unit c.args.frame.function c.slots_of-slots.result.now slot found c.slots_of-slots.ensures below c.index-slots-slot.is in
    let is : slot_at unit here.function slot ≡ Some found = ap (λ (f : Frame). slot_at unit f.function slot) c.within-here.ensures ∙ at in
    let part : part_of body unit c.deref.result.now here called slot (Some found) ≡ slot_part body unit room here called slot
    = ap (λ (ps : List ℕ). part_of body unit ps here called slot (Some found)) places
    ∙ ap (λ (o : Option FunctionSlot). part_of body unit (places_of unit room here) here called slot o) (sym is) in
    let before = parts_before (slot_part body unit room here called) slot in
    let pushed : c.push_slot.new.into.items ≡ c.loop-slot.into.items ++ part_of body unit c.deref.result.now here called slot (Some found)
    = c.in_ok-push_slot.ensures in
    pushed
    ∙ ap (λ (xs : List (Option Instruction)). xs ++ part_of body unit c.deref.result.now here called slot (Some found)) c.loop-slot.invariant
    ∙ ap (λ (xs : List (Option Instruction)). front ++ before ++ xs) part
    ∙ append_assoc front before (slot_part body unit room here called slot)
    ∙ ap (λ (xs : List (Option Instruction)). front ++ xs) (sym (one_part_more (slot_part body unit room here called) slot))

pub push_body-returns : goal.push_body-returns
push_body-returns t c =
    let unit = c.args.unit.now in
    let room = c.args.room in
    let frame = c.args.frame in
    let called = c.args.is_called in
    let less = frame.depth - 1 in
    let deep = tree_is_deep unit room frame.depth frame c.requires.tree in
    let more : suc less ≡ frame.depth = omega (arith, deep) in
    let count = length (slots_of unit frame.function) in
    let ended : c.loop-slot.slot ≡ count = search rules in
    let of : Frame → ℕ → List (Option Instruction) = λ f n. parts_before (slot_part (callee_part unit room f) unit room f called) n in
    let whole : of c.within-here.result c.loop-slot.slot ≡ body_of unit room frame.depth frame called
    = ap (λ (n : ℕ). of c.within-here.result n) ended ∙ ap (λ (f : Frame). of f count) c.within-here.ensures
    ∙ sym (body_is unit room frame less called) ∙ ap (λ (n : ℕ). body_of unit room n frame called) more in
    c.loop-slot.invariant ∙ ap (λ (xs : List (Option Instruction)). c.args.into.now.items ++ xs) whole

pub push_slot-push_instruction-requires-clause-stands :
    goal.push_slot-push_instruction-requires-clause-stands
push_slot-push_instruction-requires-clause-stands t c =
    let unit = c.args.unit.now in
    let frame = c.args.frame in
    let is = c.requires.found ∙ ap (λ (f : FunctionSlot). Some f) c.in-Begins.is in
    subst (λ (slots : List FunctionSlot). Stands (length slots) (STACK_BYTES - frame.below) c.args.slot c.in-Begins.instruction)
    (sym c.slots_of-slots.ensures)
    (instruction_at unit c.args.room frame c.args.slot c.in-Begins.instruction c.requires.frame c.requires.counted c.requires.there is)

pub push_slot-before-requires-clause-second : goal.push_slot-before-requires-clause-second
push_slot-before-requires-clause-second t c =
    second_at c.args.unit.now c.args.room c.args.frame c.args.slot c.requires.counted c.requires.there
    (c.requires.found ∙ ap (λ (f : FunctionSlot). Some f) c.in-Inside.is)

pub push_slot-push_address-requires-clause-there :
    goal.push_slot-push_address-requires-clause-there
push_slot-push_address-requires-clause-there t c =
    let unit = c.args.unit.now in
    let is = c.requires.found ∙ ap (λ (f : FunctionSlot). Some f) c.in-Address.is in
    let both = address_at unit c.args.room c.args.frame c.args.slot c.in-Address.dst c.in-Address.section c.in-Address.byte
    c.requires.counted c.requires.there is c.requires.data in
    let below : c.in-Address.section < length (sections_of unit) = both.0 in
    grind (arith, common_steps, below, length-map)

pub push_slot-push_address-requires-clause-inside :
    goal.push_slot-push_address-requires-clause-inside
push_slot-push_address-requires-clause-inside t c =
    let is = c.requires.found ∙ ap (λ (f : FunctionSlot). Some f) c.in-Address.is in
    (address_at c.args.unit.now c.args.room c.args.frame c.args.slot c.in-Address.dst c.in-Address.section c.in-Address.byte
    c.requires.counted c.requires.there is c.requires.data).1

pub push_slot-push_call-requires : goal.push_slot-push_call-requires
push_slot-push_call-requires t c =
    let unit = c.args.unit.now in
    let room = c.args.room in
    let frame = c.args.frame in
    let callee = c.in-Calls.callee in
    let is = c.requires.found ∙ ap (λ (f : FunctionSlot). Some f) c.in-Calls.is in
    let both = callee_at unit room frame c.args.slot callee c.requires.counted c.requires.there is in
    let there : callee < length unit.functions.items = both.0 in
    let tree : IsTree unit room frame.depth (called_frame unit frame callee) = both.1 in
    let below : (called_frame unit frame callee).below ≤ STACK_BYTES
    = tree_below unit room frame.depth (called_frame unit frame callee) c.requires.small tree in
    search (rules, there, tree, below)
