-- What holds refuse.
use Rattle.std.proofs.Common.{◌≡◌, ℕ, false, List, Option, Some, None, get_or, refl, ap, inl, inr}
use Rattle.std.specs.Prelude.{◌&&◌}
use Rattle.std.specs.List.{list_any}
use Rattle.std.proofs.lemmas.Bool.{and_left, and_right, or_from, or_left, or_right}
use Rattle.std.proofs.lemmas.Bool.Decides.{eqb_tells}
use Rattle.std.proofs.lemmas.List.Elements.{All-from_get_or}
use Rattle.std.proofs.lemmas.List.Folds.{list_any_none}
use Rattle.zone_resources.specs.Holds.{HoldsRefuse, IsAppendedTo, IsReadFrom, forgets, is_destination, is_source, names, no_holds}
use Rattle.zone_resources.specs.declared.holds.Holds.{Holds}
use Rattle.zone_resources.proofs.NamedZones.{named}

not_this : (zone : ℕ) (user : Option ℕ) → (user ≡ Some zone → ⊥) → names zone user ≡ false
not_this zone None other = refl
not_this zone (Some number) other = elim (eqb_tells number zone) [
  | inl same ↦ absurd (other (ap (λ (n : ℕ). Some n) same.1))
  | inr differs ↦ differs.0
]

unnamed : (zone : ℕ) (users : List (Option ℕ)) → ((run : ℕ) → get_or users run None ≡ Some zone → ⊥) → list_any (names zone) users ≡ false
unnamed zone users none =
    list_any_none (names zone) users
    (All-from_get_or (λ user. names zone user ≡ false) users None (λ run inside. not_this zone (get_or users run None) (none run)))

elsewhere : (zone : ℕ) (users : List (Option ℕ)) → list_any (names zone) users ≡ false → (run : ℕ) → get_or users run None ≡ Some zone → ⊥
elsewhere zone users none run at = let there = named zone users run at in cc

not_appended : (zone : ℕ) (holds : Holds) → is_destination holds zone ≡ false → IsAppendedTo holds zone → ⊥
not_appended zone holds none is = elsewhere zone holds.destinations none is.0 is.1

not_read : (zone : ℕ) (holds : Holds) → is_source holds zone ≡ false → IsReadFrom holds zone → ⊥
not_read zone holds none is = elsewhere zone holds.sources none is.0 is.1

pub holds_refuse : HoldsRefuse
holds_refuse = record {
  destination = λ holds a zone held.
      or_left (is_destination holds zone) (forgets a && is_source holds zone) (named zone holds.destinations held.0 held.1);
  source = λ holds zone held.
      let is = named zone holds.sources held.0 held.1 in
      (or_right (is_destination holds zone) (is_source holds zone) is, or_right (is_destination holds zone) (is_source holds zone) is);
  read = λ holds a zone other keeps.
      or_from (is_destination holds zone) (forgets a && is_source holds zone) (unnamed zone holds.destinations (λ run at. other (run, at)))
      (and_left (forgets a) (is_source holds zone) keeps);
  free = λ holds a zone other unread.
      or_from (is_destination holds zone) (forgets a && is_source holds zone) (unnamed zone holds.destinations (λ run at. other (run, at)))
      (and_right (forgets a) (is_source holds zone) (unnamed zone holds.sources (λ run at. unread (run, at))));
  none = λ zone. (not_appended zone no_holds refl, not_read zone no_holds refl);
}
