-- The listing of one more slot, with slots and without.
use Rattle.std.proofs.Common.{◌≡◌, ℕ, zero, suc, ◌+◌, ◌<◌, List, [], ◌∷◌, ◌++◌, length, take, Option, Some, None, refl, sym, ap, ◌∙◌, arith, add-zero, add-one}
use Rattle.std.specs.List.{flat_map}
use Rattle.std.proofs.lemmas.List.{append-nil}
use Rattle.std.proofs.lemmas.List.Concat.{flat_map-append}
use Rattle.instruction_set.specs.declared.instruction.Instruction.{Instruction}
use Rattle.instruction_set.specs.Program.{instruction_at}
use Rattle.ebpf_asm.specs.declared.listing.Slots.{Slots}
use Rattle.ebpf_asm.specs.declared.listing.Slots.TheVariants.{Without, With}
use Rattle.ebpf_asm.specs.steps.Listed.{listed, listed_line}
use Rattle.ebpf_asm.proofs.SlotFronts.{placed, are_in_front, are_listed}

-- the instruction that begins at a slot, with that slot; none where none begins
placed_at : ℕ → Option Instruction → List (ℕ × Instruction)
placed_at slot None = []
placed_at slot (Some instruction) = (slot, instruction) ∷ []

placed-suc : (first : ℕ) (slots : List (Option Instruction)) (i : ℕ) → i < length slots
    → placed first (take (suc i) slots) ≡ placed first (take i slots) ++ placed_at (first + i) (instruction_at slots i)
unfolding placed_at
placed-suc first [] i lt = absurd (omega (arith, lt))
placed-suc first (Some instruction ∷ rest) zero lt = ap (λ n. placed_at n (Some instruction)) (sym (add-zero first))
placed-suc first (None ∷ rest) zero lt = refl
placed-suc first (Some instruction ∷ rest) (suc i) lt =
    let shifted : first + 1 + i ≡ first + suc i = omega arith in
    let front = placed_at first (Some instruction) in
    ap (λ lines. front ++ lines) (placed-suc (first + 1) rest i (omega (arith, lt)))
    ∙ ap (λ n. front ++ (placed (first + 1) (take i rest) ++ placed_at n (instruction_at rest i))) shifted
placed-suc first (None ∷ rest) (suc i) lt =
    let shifted : first + 1 + i ≡ first + suc i = omega arith in
    placed-suc (first + 1) rest i (omega (arith, lt))
    ∙ ap (λ n. placed (first + 1) (take i rest) ++ placed_at n (instruction_at rest i)) shifted

-- the line of an instruction that is given with its slot
abbrev text_of : Slots → ℕ × Instruction → List ℕ
text_of how line = listed_line how line.0 line.1

-- either listing is the lines of the instructions in their order
listed_is : (how : Slots) (slots : List (Option Instruction)) → listed how slots ≡ flat_map (text_of how) (placed 0 slots)
listed_is Without slots = are_listed 0 slots
listed_is With slots = are_in_front 0 slots

listed-more : (how : Slots) (slots : List (Option Instruction)) (i : ℕ) → i < length slots
    → listed how (take (i + 1) slots) ≡ listed how (take i slots) ++ flat_map (text_of how) (placed_at i (instruction_at slots i))
listed-more how slots i lt =
    let first : 0 + i ≡ i = omega arith in
    ap (λ n. listed how (take n slots)) (add-one i) ∙ listed_is how (take (suc i) slots) ∙ ap (flat_map (text_of how)) (placed-suc 0 slots i lt)
    ∙ flat_map-append (text_of how) (placed 0 (take i slots)) (placed_at (0 + i) (instruction_at slots i))
    ∙ ap (λ t. t ++ flat_map (text_of how) (placed_at (0 + i) (instruction_at slots i))) (sym (listed_is how (take i slots)))
    ∙ ap (λ n. listed how (take i slots) ++ flat_map (text_of how) (placed_at n (instruction_at slots i))) first

pub listed-instruction : (how : Slots) (slots : List (Option Instruction)) (i : ℕ) (instruction : Instruction) → i < length slots → Some instruction ≡ instruction_at slots i
    → listed how (take (i + 1) slots) ≡ listed how (take i slots) ++ listed_line how i instruction
unfolding placed_at
listed-instruction how slots i instruction lt e =
    listed-more how slots i lt ∙ ap (λ o. listed how (take i slots) ++ flat_map (text_of how) (placed_at i o)) (sym e)
    ∙ ap (λ t. listed how (take i slots) ++ t) (append-nil (listed_line how i instruction))

pub listed-no_instruction : (how : Slots) (slots : List (Option Instruction)) (i : ℕ) → i < length slots → None ≡ instruction_at slots i
    → listed how (take (i + 1) slots) ≡ listed how (take i slots)
unfolding placed_at
listed-no_instruction how slots i lt e =
    listed-more how slots i lt ∙ ap (λ o. listed how (take i slots) ++ flat_map (text_of how) (placed_at i o)) (sym e)
    ∙ append-nil (listed how (take i slots))
