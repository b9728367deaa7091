-- Where instructions stand in a program.
use Rattle.std.proofs.Common.{ℕ, Bool, true, false, ◌+◌, ◌<◌, ◌≡◌, List, [], ◌∷◌, ◌++◌, length, Option, Some, None, refl, ap, ◌∙◌, subst, arith, append_assoc, length-append}
use Rattle.std.proofs.Math.Seq.{get_or-append_seam}
use Rattle.std.proofs.lemmas.Option.{slice_get-get_or}
use Rattle.std.specs.Option.{option_flatten}
use Rattle.std.specs.Prelude.{if◌then◌else◌}
use Rattle.instruction_set.specs.Program.{instruction_at, is_wide, slots_of, slots_taken}
use Rattle.instruction_set.specs.declared.instruction.Instruction.{Instruction}
use Rattle.record_questions.specs.Code.{slot_count}

-- these instructions stand one after another from a slot on
abbrev pub Stands : List (Option Instruction) → ℕ → List Instruction → Type 0
Stands program slot [] = Unit {0}
Stands program slot (i ∷ is) = (instruction_at program slot ≡ Some i) × Stands program (slot + slots_taken i) is

pub slot_count-append : (a b : List Instruction) → slot_count (a ++ b) ≡ slot_count a + slot_count b
slot_count-append [] b = omega arith
slot_count-append (i ∷ a) b =
    let rest = slot_count-append a b in
    omega (arith, rest)

pub front_stands : (program : List (Option Instruction)) (slot : ℕ) (a b : List Instruction) → Stands program slot (a ++ b) → Stands program slot a
front_stands program slot [] b h = tt
front_stands program slot (i ∷ a) b h = (h.0, front_stands program (slot + slots_taken i) a b h.1)

pub back_stands : (program : List (Option Instruction)) (slot : ℕ) (a b : List Instruction)
    → Stands program slot (a ++ b) → Stands program (slot + slot_count a) b
back_stands program slot [] b h = let e : slot ≡ slot + 0 = omega arith in subst (λ n. Stands program n b) e h
back_stands program slot (i ∷ a) b h =
    let e : slot + slots_taken i + slot_count a ≡ slot + slot_count (i ∷ a) = omega arith in
    subst (λ n. Stands program n b) e (back_stands program (slot + slots_taken i) a b h.1)

-- ---- the slots of instructions

found : (before : List (Option Instruction)) (i : Instruction) (rest : List (Option Instruction))
    → instruction_at (before ++ Some i ∷ rest) (length before) ≡ Some i
found before i rest =
    let within : length before < length (before ++ Some i ∷ rest) = omega (arith, length-append before (Some i ∷ rest)) in
    ap option_flatten (slice_get-get_or (before ++ Some i ∷ rest) (length before) None within
    ∙ ap (λ (o : Option Instruction). Some o) (get_or-append_seam before (Some i) rest None))

-- what stands after some slots more
further : (before these : List (Option Instruction)) (n : ℕ) (is : List Instruction) → length these ≡ n
    → Stands ((before ++ these) ++ slots_of is) (length (before ++ these)) is
    → Stands (before ++ (these ++ slots_of is)) (length before + n) is
further before these n is long h =
    let e : length (before ++ these) ≡ length before + n = omega (arith, long, length-append before these) in
    subst (λ m. Stands (before ++ (these ++ slots_of is)) m is) e
    (subst (λ l. Stands l (length (before ++ these)) is) (append_assoc before these (slots_of is)) h)

one_more : (wide : Bool) (i : Instruction) (is : List Instruction) (before : List (Option Instruction))
    → ((front : List (Option Instruction)) → Stands (front ++ slots_of is) (length front) is)
    → (instruction_at (before ++ (if wide then Some i ∷ None ∷ slots_of is else Some i ∷ slots_of is)) (length before) ≡ Some i)
    × Stands (before ++ (if wide then Some i ∷ None ∷ slots_of is else Some i ∷ slots_of is)) (length before + (if wide then 2 else 1)) is
one_more true i is before next =
    (found before i (None ∷ slots_of is), further before (Some i ∷ None ∷ []) 2 is refl (next (before ++ Some i ∷ None ∷ [])))
one_more false i is before next =
    (found before i (slots_of is), further before (Some i ∷ []) 1 is refl (next (before ++ Some i ∷ [])))

all_stand : (is : List Instruction) (before : List (Option Instruction)) → Stands (before ++ slots_of is) (length before) is
all_stand [] before = tt
all_stand (i ∷ is) before = one_more (is_wide i) i is before (λ front. all_stand is front)

pub program_stands : (is : List Instruction) → Stands (slots_of is) 0 is
program_stands is = all_stand is []
