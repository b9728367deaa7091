-- What a text assembles to is a program.
use Rattle.std.proofs.Common.{◌≡◌, ℕ, ◌+◌, ◌≤◌, Bool, true, false, cond, List, [], ◌∷◌, ◌++◌, length, Option, Some, None, Result, Ok, Err, refl, sym, ap, ◌∙◌, subst, arith, ◌⊎◌, inl, inr}
use Rattle.std.specs.Prelude.{IfOk, IfSome}
use Rattle.std.specs.List.{AllByRecursion, flat_map}
use Rattle.std.specs.Str.Lines.{lines}
use Rattle.instruction_set.specs.declared.instruction.Instruction.{Instruction}
use Rattle.instruction_set.specs.Program.{IsProgram, is_wide, slots_of, slots_taken}
use Rattle.instruction_set.specs.Spelling.{Fits, spelling, program_bytes}
use Rattle.common_definitions.proofs.Proved.{no_fault}
use Rattle.ebpf_asm.specs.declared.fault.Fault.{Fault}
use Rattle.ebpf_asm.specs.declared.fault.FaultKind.{FaultKind}
use Rattle.ebpf_asm.specs.Line.{Line, slots_in, slots_of_instruction}
use Rattle.ebpf_asm.specs.Assembly.{LabelMap, before_later, bytes_of_lines, bytes_in_front, fault_behind, first_fault, is_twice, label_map, lines_of, resolved, slot_count, told_first}
use Rattle.ebpf_asm.specs.Laws.{AssembledIsProgram}
use Rattle.ebpf_asm.proofs.Fitting.{Fills, LineFits, lines_fit, resolved_fits}
use Rattle.ebpf_asm.proofs.Passes.{fits_if, slot_count-cons, slot_count-push}
use Rattle.ebpf_decode.proofs.Proved.{instructions_of-slots_of}

-- ---- the room

pub none_told : (number : ℕ) (fault : Option FaultKind) (later : Option Fault) → told_first number fault later ≡ None → (fault ≡ None) × (later ≡ None)
none_told number None later e = (refl, e)
none_told number (Some kind) later e = absurd cc

room : (before rest : List Line) → slot_count before ≤ 4096 → first_fault before rest ≡ None → slot_count before + slot_count rest ≤ 4096
room before [] h e = omega (arith, h)
room before (line ∷ rest) h e =
    let none = none_told (length before + 1) (fault_behind before line) (first_fault (before ++ line ∷ []) rest) e in
    let fits = fits_if (slot_count before) (slots_in line) line.instruction (is_twice before line) none.0 refl in
    let more = room (before ++ line ∷ []) rest (omega (arith, fits.1, slot_count-push before line)) none.1 in
    omega (arith, more, slot_count-push before line, slot_count-cons line rest)

-- ---- the instructions

-- bytes that spell instructions, which take so many slots
record Spells (bytes : List ℕ) (slots : ℕ) : Type 0 where
  pub instructions : List Instruction
  pub fits : AllByRecursion Fits instructions
  pub spelled : bytes ≡ flat_map spelling instructions
  pub counted : length (slots_of instructions) ≡ slots

pub counted_more : (instruction : Instruction) (instructions : List Instruction) → length (slots_of (instruction ∷ instructions)) ≡ slots_taken instruction + length (slots_of instructions)
counted_more instruction instructions = by_wide (is_wide instruction)
  where
    by_wide : (b : Bool) → length (cond b (Some instruction ∷ None ∷ slots_of instructions) (Some instruction ∷ slots_of instructions)) ≡ cond b 2 1 + length (slots_of instructions)
    by_wide true = omega arith
    by_wide false = omega arith

one_more : (number slots : ℕ) (instruction : Instruction) (read : Result Instruction FaultKind) (later : Result (List ℕ) Fault) (bytes : List ℕ) → IfOk read (Fills instruction)
    → ((more : List ℕ) → later ≡ Ok more → Spells more slots) → before_later number read later ≡ Ok bytes → Spells bytes (slots_taken instruction + slots)
one_more number slots instruction (Err kind) later bytes fits rest e = absurd cc
one_more number slots instruction (Ok made) (Err fault) bytes fits rest e = absurd cc
one_more number slots instruction (Ok made) (Ok more) bytes fits rest e =
    let behind = rest more refl in
    let are : bytes ≡ spelling made ++ more = cc in
    record {
      instructions = made ∷ behind.instructions;
      fits = (fits.0, behind.fits);
      spelled = are ∙ ap (λ (b : List ℕ). spelling made ++ b) behind.spelled;
      counted = omega (arith, counted_more made behind.instructions, fits.1, behind.counted);
    }

no_slot : (bytes : List ℕ) (slots : ℕ) → Spells bytes slots → Spells bytes (0 + slots)
no_slot bytes slots h = let same : slots ≡ 0 + slots = omega arith in subst (λ (n : ℕ). Spells bytes n) same h

at_line : (labels : LabelMap) (number slot slots : ℕ) (instruction : Result (Option Instruction) FaultKind) (target : Option (List ℕ)) (later : Result (List ℕ) Fault) (bytes : List ℕ)
    → IfOk instruction (λ i. IfSome i Fits) → ((more : List ℕ) → later ≡ Ok more → Spells more slots)
    → bytes_in_front labels number slot instruction target later ≡ Ok bytes → Spells bytes (slots_of_instruction instruction + slots)
at_line labels number slot slots (Ok (Some instruction)) target later bytes fits rest e =
    one_more number slots instruction (resolved labels slot instruction target) later bytes (resolved_fits labels slot instruction target fits) rest e
at_line labels number slot slots (Ok None) target later bytes fits rest e = no_slot bytes slots (rest bytes e)
at_line labels number slot slots (Err kind) target later bytes fits rest e = no_slot bytes slots (rest bytes e)

spells : (labels : LabelMap) (number slot : ℕ) (all : List Line) (bytes : List ℕ) → AllByRecursion LineFits all → bytes_of_lines labels number slot all ≡ Ok bytes → Spells bytes (slot_count all)
spells labels number slot [] bytes fits e = record { instructions = []; fits = tt; spelled = let none : bytes ≡ [] = cc in none; counted = refl }
spells labels number slot (line ∷ rest) bytes fits e =
    subst (λ (n : ℕ). Spells bytes n) (sym (slot_count-cons line rest))
    (at_line labels number slot (slot_count rest) line.instruction line.target (bytes_of_lines labels (number + 1) (slot + slots_in line) rest) bytes fits.0
    (λ more h. spells labels (number + 1) (slot + slots_in line) rest more fits.1 h) e)

-- ---- the program

some_slot : (instruction : Instruction) (instructions : List Instruction) → 1 ≤ length (slots_of (instruction ∷ instructions))
some_slot instruction instructions = by_wide (is_wide instruction)
  where
    by_wide : (b : Bool) → 1 ≤ length (cond b (Some instruction ∷ None ∷ slots_of instructions) (Some instruction ∷ slots_of instructions))
    by_wide true = omega arith
    by_wide false = omega arith

program : (instructions : List Instruction) (bytes : List ℕ) (slots : ℕ) → AllByRecursion Fits instructions → bytes ≡ flat_map spelling instructions → length (slots_of instructions) ≡ slots → slots ≤ 4096
    → ((bytes ≡ []) × (slots ≡ 0)) ⊎ ((slots : List (Option Instruction)) × IsProgram slots × (bytes ≡ program_bytes slots))
program [] bytes slots fits spelled counted most = inl (spelled, sym counted)
program (instruction ∷ instructions) bytes slots fits spelled counted most = inr (
  slots_of (instruction ∷ instructions),
  record { instructions = instruction ∷ instructions; layout = refl; fits = fits; some = some_slot instruction instructions; most = omega (arith, counted, most) },
  spelled ∙ sym (ap (flat_map spelling) (instructions_of-slots_of (instruction ∷ instructions))),
)

pub assembled_is_program : AssembledIsProgram
assembled_is_program text bytes e =
    let all = lines_of text in
    let done = no_fault (first_fault [] all) (bytes_of_lines (label_map all) 1 0 all) bytes e in
    let made = spells (label_map all) 1 0 all bytes (lines_fit (lines text)) done.1 in
    let within : slot_count all ≤ 4096 = omega (arith, room [] all (omega arith) done.0) in
    program made.instructions bytes (slot_count all) made.fits made.spelled made.counted within
