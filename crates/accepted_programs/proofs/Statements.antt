-- What the proofs of the verifier take from here, beside the laws.
use Rattle.std.specs.Prelude.{ℕ, ◌≡◌, false, List, Option, Some, None}
use Rattle.instruction_set.specs.declared.instruction.Instruction.{Instruction}
use Rattle.program_meaning.specs.Places.{AccessesLie}
use Rattle.program_meaning.specs.TrapFree.{NeverTraps}
use Rattle.program_meaning.specs.declared.place.Place.{Place}
use Rattle.program_interface.specs.RunSizes.{Sizes}
use Rattle.word_domain.specs.Domain.{Operations}
use Rattle.accepted_programs.specs.Accepted.{fails, reason_of, refusal_at}
use Rattle.accepted_programs.specs.Places.{ArePlaces}
use Rattle.accepted_programs.specs.declared.facts.Facts.{Facts}
use Rattle.accepted_programs.specs.declared.reason.Reason.{Reason}
use Rattle.accepted_programs.specs.declared.reason.Refusal.{Refusal}

-- that a program never traps has one proof at most
abbrev pub NeverTrapsIsProp : Type 0
NeverTrapsIsProp = (program : List (Option Instruction)) (limit block : ℕ) → IsProp (NeverTraps program limit block)

-- that a program accesses memory where it is told to has one proof at most
abbrev pub AccessesLieIsProp : Type 0
AccessesLieIsProp = (program : List (Option Instruction)) (limit block : ℕ) (place : ℕ → Option Place)
    → IsProp (AccessesLie program limit block place)

-- that a list tells the place of each slot has one proof at most
abbrev pub ArePlacesIsProp : {D : Type 0} → Operations D → Type 0
ArePlacesIsProp operations = (block : ℕ) (program : List (Option Instruction)) (places : List (Option Place))
    → IsProp (ArePlaces operations block program places)

-- a refusal that a slot has is told of that slot
abbrev pub RefusalIsAtItsSlot : {D : Type 0} → Operations D → Type 0
RefusalIsAtItsSlot {D} operations = (program : List (Option Instruction)) (sizes : Sizes) (slot : ℕ) (i : Option Instruction)
    (facts : Option (Facts D)) (r : Refusal) → refusal_at operations program sizes slot i facts ≡ Some r → r.slot ≡ slot

-- an instruction that has no least reason to be refused has none
abbrev pub NoReasonHolds : {D : Type 0} → Operations D → Type 0
NoReasonHolds {D} operations = (program : List (Option Instruction)) (sizes : Sizes) (slot : ℕ) (facts : Facts D) (i : Instruction)
    → reason_of operations program sizes slot facts i ≡ None
    → (reason : Reason) → fails operations program sizes slot facts i reason ≡ false
