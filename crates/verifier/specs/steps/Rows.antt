-- The facts of the slots, each in a box of its own, and what slots hold once facts were given to some.
use Rattle.std.specs.Prelude.{ℕ, ◌≡◌, ◌<◌, ◌==◌, Box, List, length, get_or, option_map, Option, Some, None, IsSome, if◌then◌else◌}
use Rattle.instruction_set.specs.Program.{instruction_at}
use Rattle.instruction_set.specs.declared.instruction.Instruction.{Instruction}
use Rattle.program_interface.specs.RunSizes.{Sizes}
use Rattle.word_domain.specs.Domain.{Operations}
use Rattle.accepted_programs.specs.Accepted.{refusal_at}
use Rattle.accepted_programs.specs.Facts.{facts_at_start, facts_at_target, facts_behind, gives, merge, with_both}
use Rattle.accepted_programs.specs.declared.facts.Facts.{Facts}
use Rattle.accepted_programs.specs.declared.reason.Refusal.{Refusal}
use Rattle.verifier.specs.declared.rows.Fork.{Fork}
use Rattle.verifier.specs.declared.rows.Refused.{Refused}

-- what each slot was given so far, in a box
abbrev pub Rows : Type 0 → Type 0 → Type 0
Rows D Z = List (Option (Box (Facts D) Z))

module _ {D Z : Type 0} where
  -- the facts in a box, if there is one
  abbrev pub held : Option (Box (Facts D) Z) → Option (Facts D)
  held = option_map (λ facts. facts.value)

  -- what a slot was given so far
  abbrev pub held_at : Rows D Z → ℕ → Option (Facts D)
  held_at rows slot = held (get_or rows slot None)

  -- each slot holds what a change makes of what it held
  abbrev pub EachBecomes : (ℕ → Option (Facts D) → Option (Facts D)) → (old new : Rows D Z) → Type 0
  EachBecomes change old new = (s : ℕ) → s < length old → held_at new s ≡ change s (held_at old s)

module _ {D : Type 0} (operations : Operations D) where
  -- what a slot holds once facts, if there are some, were given to one of the slots
  abbrev pub with_gift : ℕ → Option (Facts D) → ℕ → Option (Facts D) → Option (Facts D)
  with_gift to given slot sofar = merge operations sofar (if to == slot then given else None)

  module _ {Z : Type 0} where
    -- of so many slots the first holds what is known at the start of a block run, and no other holds anything
    abbrev pub HoldStart : ℕ → Rows D Z → Type 0
    HoldStart slots rows = (s : ℕ) → s < slots → held_at rows s ≡ (if s == 0 then Some (facts_at_start operations) else None)

    -- facts were joined into those that a slot was given, if it was given some
    abbrev pub IsJoined : Facts D → (old new : Option (Box (Facts D) Z)) → Type 0
    IsJoined facts old new = IsSome old → held new ≡ merge operations (held old) (Some facts)

    -- facts were given to the slot behind a jump, and then others to its target
    abbrev pub GivesBoth : ℕ → Option (Facts D) → ℕ → Option (Facts D) → (old new : Rows D Z) → Type 0
    GivesBoth behind given target others =
        EachBecomes (λ slot sofar. with_gift target others slot (with_gift behind given slot sofar))

    -- facts were given along the edges of a compare that there are, with what is known there of its two words
    abbrev pub GivesAlong : Fork D → Facts D → Option (D × D) → Option (D × D) → (old new : Rows D Z) → Type 0
    GivesAlong fork facts not_taken taken =
        let along : Option (D × D) → Option (Facts D) = with_both operations facts fork.dst fork.source in
        GivesBoth fork.behind (along not_taken) fork.target (along taken)

    -- a jump gave what it leaves known to the slot behind it and to its target, whatever the length of a block
    abbrev pub GivesByJump : Instruction → Facts D → (behind target : ℕ) → (old new : Rows D Z) → Type 0
    GivesByJump i facts behind target old new =
        (block : ℕ)
        → GivesBoth behind (facts_behind operations block i facts) target (facts_at_target operations block i facts) old new

    -- the instruction at a slot gave what it leaves known to the slots behind it; those before are left open
    abbrev pub GivesOn : ℕ → List (Option Instruction) → ℕ → (old new : Rows D Z) → Type 0
    GivesOn block program slot old new =
        (s : ℕ) → slot < s → s < length old
        → held_at new s ≡ gives operations block (instruction_at program slot) slot (held_at old slot) s (held_at old s)

-- the refusal that a visit found, if it did
abbrev pub refusal_in : {D : Type 0} → Option (Refused D) → Option Refusal
refusal_in = option_map (λ refused. refused.refusal)

-- what is found at a slot is its refusal, by the facts that it holds
abbrev pub IsFoundAt : {D Z : Type 0} → Operations D → List (Option Instruction) → Sizes → ℕ → Rows D Z → Option (Refused D) → Type 0
IsFoundAt operations program sizes slot rows found =
    refusal_in found ≡ refusal_at operations program sizes slot (instruction_at program slot) (held_at rows slot)
