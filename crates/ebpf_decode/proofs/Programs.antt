-- What is read from slots is spelled by them, and what spells a program is read as it.
use Rattle.std.proofs.Common.{◌≡◌, ℕ, suc, ◌+◌, ◌*◌, ◌/◌, ◌%◌, ◌^◌, ◌≤◌, Bool, true, false, cond, eqb, leb, option_map, List, [], ◌∷◌, ◌++◌, length, Option, Some, None, Result, Ok, Err, refl, sym, ap, ◌∙◌, arith}
use Rattle.std.specs.Prelude.{IsSome, option_to_list}
use Rattle.std.specs.Result.{result_map_both}
use Rattle.std.specs.List.{AllByRecursion, flat_map, slice_get}
use Rattle.ebpf_decode.specs.declared.fault.Fault.{Fault}
use Rattle.ebpf_decode.specs.declared.fault.FaultKind.{FaultKind}
use Rattle.instruction_set.specs.declared.fields.Fields.{Fields}
use Rattle.instruction_set.specs.declared.instruction.Instruction.{Instruction}
use Rattle.instruction_set.specs.declared.instruction.Instruction.TheVariants.{LoadImmediate}
use Rattle.instruction_set.specs.Program.{IsProgram, is_wide, slots_of}
use Rattle.ebpf_decode.specs.FirstFault.{Begins}
use Rattle.ebpf_decode.specs.Reading.{at_first_slot, decoded_program, length_checks, length_fault, read, read_slots, slots_at, then_read}
use Rattle.instruction_set.specs.Spelling.{Fits, first_slot, instructions_of, program_bytes, second_slot, slot_bytes, slots_spelled, spelling}
use Rattle.common_definitions.specs.Readings.{unless_fault, with_front}
use Rattle.program_interface.specs.declared.TheConstants.{MOST_SLOTS}
use Rattle.std.proofs.lemmas.Bool.{eq-eqb, eqb-false, eqb-true, le-leb, leb-true, ne_eqb, not-true}
use Rattle.std.proofs.lemmas.List.Concat.{flat_map-append}
use Rattle.std.proofs.lemmas.Result.{IfOk-at_ok}
use Rattle.ebpf_decode.proofs.SpelledAreRead.{read-again}
use Rattle.common_definitions.specs.Bytes.{AreBytes}
use Rattle.common_definitions.proofs.Proved.{demanded, no_fault, no_fault_where_none_fails}
use Rattle.ebpf_decode.proofs.Bytes.{FitSlot, fits-32, length-slots_bytes, slots-again, slots-bytes, slots-fields}
use Rattle.ebpf_decode.proofs.Slots.{length-slots}
use Rattle.ebpf_decode.proofs.ReadAreSpelled.{AreFields, AreFieldsIn, read-takes}

-- instructions whose slots they are
record Spelled (fs : List Fields) (slots : List (Option Instruction)) : Type 0 where
  instructions : List Instruction
  layout : slots ≡ slots_of instructions
  spelled : fs ≡ flat_map slots_spelled instructions
  fits : AllByRecursion Fits instructions

-- the same behind a wide instruction's second slot
record AfterSecond (fs : List Fields) (slots : List (Option Instruction)) : Type 0 where
  second : Fields
  others : List Fields
  rest : List (Option Instruction)
  are : fs ≡ second ∷ others
  slots_are : slots ≡ None ∷ rest
  after : Spelled others rest

abbrev SpelledFrom : Bool → List Fields → List (Option Instruction) → Type 0
SpelledFrom false fs slots = Spelled fs slots
SpelledFrom true fs slots = AfterSecond fs slots

front-ok : (front : List (Option Instruction)) (read : Result (List (Option Instruction)) Fault) (slots : List (Option Instruction)) → with_front front read ≡ Ok slots
    → (rest : List (Option Instruction)) × (read ≡ Ok rest) × (front ++ rest ≡ slots)
front-ok front (Ok rest) slots e = (rest, refl, cc)
front-ok front (Err fault) slots e = absurd cc

first-ok : (read : Result Instruction FaultKind) (s : ℕ) (after : Bool → Result (List (Option Instruction)) Fault) (slots : List (Option Instruction)) → then_read (result_map_both Some (λ kind. kind) read) s after ≡ Ok slots
    → (i : Instruction) × (read ≡ Ok i) × (with_front (Some i ∷ []) (after (is_wide i)) ≡ Ok slots)
first-ok (Ok i) s after slots e = (i, refl, e)
first-ok (Err kind) s after slots e = absurd cc

wide-has-second : (i : Instruction) (next : Option Fields) → is_wide i ≡ true → second_slot i ≡ cond (is_wide i) next None → IsSome next
wide-has-second (LoadImmediate dst value) (Some f) wide e = refl
wide-has-second (LoadImmediate dst value) None wide e = absurd cc
wide-has-second i next wide e = absurd cc

pub are-fields-in : (fs : List Fields) → AllByRecursion AreFields fs → AreFieldsIn (slice_get fs 0)
are-fields-in [] all = tt
are-fields-in (f ∷ fs) all = all.0

joined : (f : Fields) (fs : List Fields) (slots rest : List (Option Instruction)) (i : Instruction) (wide : Bool) → is_wide i ≡ wide
    → Begins f (slice_get fs 0) i → Some i ∷ rest ≡ slots → SpelledFrom wide fs rest → Spelled (f ∷ fs) slots
joined f fs slots rest i false is taken e after = record {
  instructions = i ∷ after.instructions;
  layout = rw is (sym e ∙ ap (λ xs. Some i ∷ xs) after.layout);
  spelled = rw (taken.first, taken.second, is) (ap (λ xs. f ∷ xs) after.spelled);
  fits = (taken.fits, after.fits);
}
joined f fs slots rest i true is taken e after = record {
  instructions = i ∷ after.after.instructions;
  layout = rw is (sym e ∙ ap (λ xs. Some i ∷ xs) (after.slots_are ∙ ap (λ xs. None ∷ xs) after.after.layout));
  spelled =
      let next : slice_get fs 0 ≡ Some after.second = ap (λ xs. slice_get xs 0) after.are in
      rw (taken.first, taken.second, is, next) (ap (λ xs. f ∷ xs) (after.are ∙ ap (λ xs. after.second ∷ xs) after.after.spelled));
  fits = (taken.fits, after.after.fits);
}

takes : (fs : List Fields) (second : Bool) (s : ℕ) (slots : List (Option Instruction)) → AllByRecursion AreFields fs → (second ≡ true → IsSome (slice_get fs 0))
    → read_slots second s fs ≡ Ok slots → SpelledFrom second fs slots
takes [] false s slots all some e = record { instructions = []; layout = cc; spelled = refl; fits = tt }
takes [] true s slots all some e = let none : IsSome (slice_get {X = Fields} [] 0) = some refl in absurd cc
takes (f ∷ fs) true s slots all some e =
    let w = front-ok (None ∷ []) (read_slots false (s + 1) fs) slots e in
    record { second = f; others = fs; rest = w.0; are = refl; slots_are = sym w.2; after = takes fs false (s + 1) w.0 all.1 (λ never. absurd cc) w.1 }
takes (f ∷ fs) false s slots all some e =
    let r = first-ok (read f (slice_get fs 0)) s (λ wide. read_slots wide (s + 1) fs) slots e in
    let w = front-ok (Some r.0 ∷ []) (read_slots (is_wide r.0) (s + 1) fs) slots r.2 in
    let taken = read-takes f (slice_get fs 0) r.0 all.0 (are-fields-in fs all.1) r.1 in
    joined f fs slots w.0 r.0 (is_wide r.0) refl taken w.2
    (takes fs (is_wide r.0) (s + 1) w.0 all.1 (λ wide. wide-has-second r.0 (slice_get fs 0) wide taken.second) w.1)

-- what is read from slots is spelled by them
slots-take : (fs : List Fields) (slots : List (Option Instruction)) → AllByRecursion AreFields fs → read_slots false 0 fs ≡ Ok slots → Spelled fs slots
slots-take fs slots all e = takes fs false 0 slots all (λ never. absurd cc) e

-- ---- lengths, instructions and bytes of programs

length-slots_of : (is : List Instruction) → length (slots_of is) ≡ length (flat_map slots_spelled is)
length-slots_of [] = refl
length-slots_of (LoadImmediate dst value ∷ is) = ap (λ n. suc (suc n)) (length-slots_of is)
length-slots_of (i ∷ is) = ap suc (length-slots_of is)

-- the slots of instructions hold these and no others
pub instructions_of-slots_of : (is : List Instruction) → instructions_of (slots_of is) ≡ is
instructions_of-slots_of [] = refl
instructions_of-slots_of (LoadImmediate dst value ∷ is) = ap (λ xs. LoadImmediate dst value ∷ xs) (instructions_of-slots_of is)
instructions_of-slots_of (i ∷ is) = ap (λ xs. i ∷ xs) (instructions_of-slots_of is)

spelling-slots : (is : List Instruction) → flat_map spelling is ≡ flat_map slot_bytes (flat_map slots_spelled is)
spelling-slots [] = refl
spelling-slots (i ∷ is) =
    ap (λ xs. spelling i ++ xs) (spelling-slots is) ∙ sym (flat_map-append slot_bytes (slots_spelled i) (flat_map slots_spelled is))

program_bytes-slots_of : (is : List Instruction) → program_bytes (slots_of is) ≡ flat_map slot_bytes (flat_map slots_spelled is)
program_bytes-slots_of is = ap (flat_map spelling) (instructions_of-slots_of is) ∙ spelling-slots is

-- bytes whose length has no fault have no more slots than a program may
pub few_slots : (bytes : List ℕ) → length_fault (length bytes) ≡ None → length bytes / 8 ≤ MOST_SLOTS
few_slots bytes length_is =
    leb-true _ _ (demanded _ _ ((no_fault_where_none_fails FaultKind (length_checks (length bytes))).0 length_is).1.1.0)

-- slots that are read from bytes are a program, spelled by the bytes
pub program-read : (bytes : List ℕ) (slots : List (Option Instruction)) → AreBytes bytes → length_fault (length bytes) ≡ None
    → read_slots false 0 (slots_at (length bytes / 8) bytes) ≡ Ok slots → IsProgram slots × (bytes ≡ program_bytes slots)
program-read bytes slots fits length_is e =
    let count = length bytes / 8 in
    let good = (no_fault_where_none_fails FaultKind (length_checks (length bytes))).0 length_is in
    let whole : length bytes % 8 ≡ 0 = eqb-true _ _ (demanded _ _ good.0) in
    let few : count ≤ MOST_SLOTS = few_slots bytes length_is in
    let some : length bytes ≡ 0 → ⊥ = eqb-false _ _ (not-true _ (demanded _ _ good.1.0)) in
    let spelled = slots-take (slots_at count bytes) slots (slots-fields count bytes fits) e in
    let long : length slots ≡ count =
    ap length spelled.layout ∙ length-slots_of spelled.instructions ∙ ap length (sym spelled.spelled) ∙ length-slots count bytes in (
      record {
        instructions = spelled.instructions;
        layout = spelled.layout;
        fits = spelled.fits;
        some = omega arith;
        most = omega arith;
      },
      sym (slots-bytes count bytes fits (omega arith))
          ∙ ap (flat_map slot_bytes) spelled.spelled
          ∙ sym (program_bytes-slots_of spelled.instructions)
          ∙ ap program_bytes (sym spelled.layout),
    )

-- ---- what spells a program is read as it

read-first : (i : Instruction) (s : ℕ) (fs : List Fields) → Fits i → second_slot i ≡ cond (is_wide i) (slice_get fs 0) None
    → read_slots false s (first_slot i ∷ fs) ≡ with_front (Some i ∷ []) (read_slots (is_wide i) (s + 1) fs)
read-first i s fs fits second =
    ap (λ r. then_read (result_map_both Some (λ kind. kind) r) s (λ wide. read_slots wide (s + 1) fs)) (read-again i (slice_get fs 0) fits second)

read-program : (is : List Instruction) (s : ℕ) → AllByRecursion Fits is → read_slots false s (flat_map slots_spelled is) ≡ Ok (slots_of is)
read-program [] s fits = refl
read-program (LoadImmediate dst value ∷ is) s fits =
    read-first (LoadImmediate dst value) s (option_to_list (second_slot (LoadImmediate dst value)) ++ flat_map slots_spelled is) fits.0 refl
    ∙ ap (λ (r : Result (List (Option Instruction)) Fault). with_front (Some (LoadImmediate dst value) ∷ []) (with_front (None ∷ []) r)) (read-program is (s + 1 + 1) fits.1)
read-program (i ∷ is) s fits =
    read-first i s (flat_map slots_spelled is) fits.0 refl ∙ ap (with_front (Some i ∷ [])) (read-program is (s + 1) fits.1)

fit-slots : (is : List Instruction) → AllByRecursion Fits is → AllByRecursion FitSlot (flat_map slots_spelled is)
fit-slots [] fits = tt
fit-slots (LoadImmediate dst value ∷ is) fits = (
  record { dst = omega (arith, fits.0.dst); offset = fits.0.offset; immediate = fits.0.immediate },
  (record { dst = omega arith; offset = fits.0.offset; immediate = fits-32 (value / 2 ^ 32 % 2 ^ 32) (omega arith) }, fit-slots is fits.1),
)
fit-slots (i ∷ is) fits =
    (record { dst = omega (arith, fits.0.dst); offset = fits.0.offset; immediate = fits.0.immediate }, fit-slots is fits.1)

-- the bytes that spell a program decode as it
pub program-again : (slots : List (Option Instruction)) → IsProgram slots → decoded_program (program_bytes slots) ≡ Ok slots
program-again slots program =
    let is = program.instructions in
    let fs = flat_map slots_spelled is in
    let bytes : program_bytes slots ≡ flat_map slot_bytes fs = ap program_bytes program.layout ∙ program_bytes-slots_of is in
    let len : length (flat_map slot_bytes fs) ≡ 8 * length fs = length-slots_bytes fs in
    let slot_count : length slots ≡ length fs = ap length program.layout ∙ length-slots_of is in
    let count : length (flat_map slot_bytes fs) / 8 ≡ length fs = omega arith in
    let some = program.some in
    let most = program.most in
    let whole : eqb (length (flat_map slot_bytes fs) % 8) 0 ≡ true = eq-eqb _ _ (omega arith) in
    let filled : eqb (length (flat_map slot_bytes fs)) 0 ≡ false = ne_eqb _ _ (λ none. omega arith) in
    let few : leb (length (flat_map slot_bytes fs) / 8) MOST_SLOTS ≡ true = le-leb _ _ (omega arith) in
    let no_length_fault : length_fault (length (flat_map slot_bytes fs)) ≡ None = rw (whole, filled, few) refl in
    ap decoded_program bytes
    ∙ ap (λ k. unless_fault (option_map at_first_slot k) (read_slots false 0 (slots_at (length (flat_map slot_bytes fs) / 8) (flat_map slot_bytes fs)))) no_length_fault
    ∙ ap (λ n. read_slots false 0 (slots_at n (flat_map slot_bytes fs))) count
    ∙ ap (read_slots false 0) (slots-again fs (fit-slots is program.fits))
    ∙ read-program is 0 program.fits
    ∙ ap (λ xs. Ok xs) (sym program.layout)

-- programs that are spelled alike are one
pub one-program : (a b : List (Option Instruction)) → IsProgram a → IsProgram b → program_bytes a ≡ program_bytes b → a ≡ b
one-program a b p q same = IfOk-at_ok (λ slots. a ≡ slots) (sym (program-again a p) ∙ ap decoded_program same ∙ program-again b q) refl

-- what decodes is a program, spelled by the bytes
pub decoded-program : (bytes : List ℕ) (slots : List (Option Instruction)) → AreBytes bytes → decoded_program bytes ≡ Ok slots → IsProgram slots × (bytes ≡ program_bytes slots)
decoded-program bytes slots fits e =
    let ok = no_fault (option_map at_first_slot (length_fault (length bytes))) (read_slots false 0 (slots_at (length bytes / 8) bytes)) slots e in
    let no_length_fault : length_fault (length bytes) ≡ None = grind (arith, ok.0) in
    program-read bytes slots fits no_length_fault ok.1
