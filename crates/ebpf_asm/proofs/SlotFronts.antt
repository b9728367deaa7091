-- In the listing with slots each instruction's line stands behind its slot.
use Rattle.std.proofs.Common.{◌≡◌, ℕ, suc, ◌+◌, ◌≤◌, List, [], ◌∷◌, ◌++◌, Option, Some, None, refl, sym, ap, ◌∙◌, arith, add-zero}
use Rattle.std.specs.List.{AllByRecursion, flat_map}
use Rattle.instruction_set.specs.declared.instruction.Instruction.{Instruction}
use Rattle.instruction_set.specs.Program.{instruction_at}
use Rattle.ebpf_asm.specs.Laws.{SlotsRise, SlotsStandInFront}
use Rattle.ebpf_asm.specs.Listing.{line_text, line_with_slot, lines_from, listing, slot_text}

-- the instructions of slots, each with its slot, where the first slot has this number
abbrev pub placed : ℕ → List (Option Instruction) → List (ℕ × Instruction)
placed first [] = []
placed first (Some instruction ∷ rest) = (first, instruction) ∷ placed (first + 1) rest
placed first (None ∷ rest) = placed (first + 1) rest

all_begin : (all : List (Option Instruction)) (first : ℕ) (slots : List (Option Instruction)) → ((slot : ℕ) → instruction_at slots slot ≡ instruction_at all (first + slot))
    → AllByRecursion (λ (line : ℕ × Instruction). instruction_at all line.0 ≡ Some line.1) (placed first slots)
all_begin all first [] same = tt
all_begin all first (Some instruction ∷ rest) same = (
  ap (λ slot. instruction_at all slot) (sym (add-zero first)) ∙ sym (same 0),
  all_begin all (first + 1) rest (λ slot. same (suc slot) ∙ ap (λ n. instruction_at all n) (omega arith)),
)
all_begin all first (None ∷ rest) same = all_begin all (first + 1) rest (λ slot. same (suc slot) ∙ ap (λ n. instruction_at all n) (omega arith))

all_rise : (first least : ℕ) (slots : List (Option Instruction)) → least ≤ first → SlotsRise least (placed first slots)
all_rise first least [] h = tt
all_rise first least (Some instruction ∷ rest) h = (h, all_rise (first + 1) (first + 1) rest (omega arith))
all_rise first least (None ∷ rest) h = all_rise (first + 1) least rest (omega (arith, h))

pub are_in_front : (first : ℕ) (slots : List (Option Instruction))
    → lines_from first slots ≡ flat_map (λ (line : ℕ × Instruction). slot_text line.0 ++ line_text line.1) (placed first slots)
are_in_front first [] = refl
are_in_front first (Some instruction ∷ rest) = ap (λ (lines : List ℕ). line_with_slot first instruction ++ lines) (are_in_front (first + 1) rest)
are_in_front first (None ∷ rest) = are_in_front (first + 1) rest

pub are_listed : (first : ℕ) (slots : List (Option Instruction)) → listing slots ≡ flat_map (λ (line : ℕ × Instruction). line_text line.1) (placed first slots)
are_listed first [] = refl
are_listed first (Some instruction ∷ rest) = ap (λ (lines : List ℕ). line_text instruction ++ lines) (are_listed (first + 1) rest)
are_listed first (None ∷ rest) = are_listed (first + 1) rest

pub slots_stand_in_front : SlotsStandInFront
slots_stand_in_front slots = record {
  lines = placed 0 slots;
  begin = all_begin slots 0 slots (λ slot. ap (λ n. instruction_at slots n) (omega arith));
  rise = all_rise 0 0 slots (omega arith);
  with_slots = are_in_front 0 slots;
  without = are_listed 0 slots;
}
