-- The places of a program's slots.
use Rattle.std.proofs.Common.{inl, inr, ◌≡◌, ℕ, ◌<◌, ◌≤◌, List, length, get_or, Option, None, refl, sym, ap, ◌∙◌, arith}
use Rattle.std.proofs.lemmas.Bool.{cases_lt}
use Rattle.std.proofs.lemmas.List.{get_or_past}
use Rattle.std.proofs.lemmas.Option.{slice_get_past}
use Rattle.std.specs.Option.{option_flatten}
use Rattle.instruction_set.specs.Program.{instruction_at}
use Rattle.instruction_set.specs.declared.instruction.Instruction.{Instruction}
use Rattle.program_meaning.specs.declared.place.Place.{Place}
use Rattle.word_domain.specs.Domain.{Operations}
use Rattle.accepted_programs.specs.Places.{ArePlaces, place_at}

module _ {D : Type 0} (operations : Operations D) (block : ℕ) (program : List (Option Instruction)) where
  abbrev at : ℕ → Option Place
  at slot = place_at operations block program slot

  -- past the program's end nothing is known
  none_past : (slot : ℕ) → length program ≤ slot → at slot ≡ None
  none_past slot past =
      let none : instruction_at program slot ≡ None = ap option_flatten (slice_get_past program slot past) in
      rw none refl

  -- the places of all slots
  pub all_places : (places : List (Option Place)) → length places ≡ length program
      → ((slot : ℕ) → slot < length program → get_or places slot None ≡ at slot) → ArePlaces operations block program places
  all_places places long are slot = elim (cases_lt slot (length program)) [
    | inl inside ↦ are slot inside
    | inr past ↦ get_or_past places slot None (omega (arith, long, past)) ∙ sym (none_past slot past)
  ]
