-- The numbers of runs, free and active, by what a device holds.
use Rattle.std.proofs.Common.{◌≡◌, ℕ, ◌+◌, Bool, cond, List, [], ◌∷◌, length, map, Option, Some, None, refl, ap, ◌∙◌}
use Rattle.std.specs.Prelude.{not, nat_lt, is_none, is_some, option_map, position}
use Rattle.std.specs.List.{position_or_len}
use Rattle.std.proofs.lemmas.List.{length-map}
use Rattle.image_store.specs.Namespace.{ZonedNamespace}
use Rattle.word_domain.specs.declared.domain.Domain.{Ghosts}
use Rattle.device_meaning.specs.Draining.{lowest_run}
use Rattle.device_meaning.specs.State.{free_place}
use Rattle.device_meaning.specs.View.{place_of, seen}
use Rattle.runner.specs.DeviceState.{active_of, loaded_slot, running, device_state}
use Rattle.runner.specs.declared.active_run.ActiveRun.{ActiveRun}
use Rattle.runner.specs.declared.loaded_program.LoadedProgram.{LoadedProgram}

-- the first that passes is at the same index in a mapped list, for tests that are the same
module _ {X Y : Type 0} (f : X → Y) (p : X → Bool) (q : Y → Bool) (same : (x : X) → q (f x) ≡ p x) where
  mapped_or_len : (xs : List X) → position_or_len q (map f xs) ≡ position_or_len p xs
  mapped_or_len [] = refl
  mapped_or_len (x ∷ xs) =
      ap (λ (b : Bool). cond (not b) (1 + position_or_len q (map f xs)) 0) (same x)
      ∙ ap (λ (n : ℕ). cond (not (p x)) (1 + n) 0) (mapped_or_len xs)

  position_mapped : (xs : List X) → position q (map f xs) ≡ position p xs
  position_mapped xs =
      ap (λ (n : ℕ). cond (nat_lt n (length (map f xs))) (Some n) None) (mapped_or_len xs)
      ∙ ap (λ (n : ℕ). cond (nat_lt (position_or_len p xs) n) (Some (position_or_len p xs)) None) (length-map xs f)

-- what is made of an option is there where that is
module _ {X Y : Type 0} (f : X → Y) where
  mapped_none : (x : Option X) → is_none (option_map f x) ≡ is_none x
  mapped_none None = refl
  mapped_none (Some x) = refl

  pub mapped_some : (x : Option X) → is_some (option_map f x) ≡ is_some x
  mapped_some None = refl
  mapped_some (Some x) = refl

module _ {D : Type 0} {domain : Ghosts D} (ns : ZonedNamespace) (slots : List (Option (LoadedProgram D domain))) (runs : List (Option ActiveRun)) where
  pub free_is : free_place (device_state ns slots runs) ≡ position is_none runs
  free_is =
      position_mapped (seen ns (map loaded_slot slots)) is_none is_none (mapped_none (place_of ns (map loaded_slot slots))) (map running runs)
      ∙ position_mapped running is_none is_none (mapped_none active_of) runs

  pub lowest_is : lowest_run (device_state ns slots runs) ≡ position is_some runs
  lowest_is =
      position_mapped (seen ns (map loaded_slot slots)) is_some is_some (mapped_some (place_of ns (map loaded_slot slots))) (map running runs)
      ∙ position_mapped running is_some is_some (mapped_some active_of) runs
