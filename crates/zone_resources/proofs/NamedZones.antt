-- What runs have of a zone names that zone.
use Rattle.std.proofs.Common.{◌≡◌, ℕ, zero, suc, ◌<◌, true, List, [], ◌∷◌, length, map, get_or, Option, Some, None, refl, ap, ◌∙◌, arith}
use Rattle.std.specs.List.{list_any}
use Rattle.std.proofs.lemmas.Bool.{eq-eqb}
use Rattle.std.proofs.lemmas.List.{get_or-map}
use Rattle.std.proofs.lemmas.List.Folds.{list_any_at}
use Rattle.zone_resources.specs.Holds.{names}

-- what is there is one of the list
pub there : {A : Type 0} (runs : List (Option A)) (number : ℕ) (run : A) → get_or runs number None ≡ Some run → number < length runs
there [] number run at = cc
there (x ∷ xs) zero run at = omega arith
there (x ∷ xs) (suc number) run at = let less = there xs number run at in omega (arith, less)

-- a zone that stands among these numbers is named
pub named : (zone : ℕ) (numbers : List (Option ℕ)) (run : ℕ) → get_or numbers run None ≡ Some zone → list_any (names zone) numbers ≡ true
named zone numbers run at = list_any_at (names zone) numbers run None (there numbers run zone at) (ap (names zone) at ∙ eq-eqb zone zone refl)

-- where one of some runs has a zone, that zone is named among what they have
pub runs_name_zones : {A : Type 0} (of : Option A → Option ℕ) (zone : ℕ) (runs : List (Option A)) (number : ℕ) (run : A) → get_or runs number None ≡ Some run
    → of (Some run) ≡ Some zone → list_any (names zone) (map of runs) ≡ true
runs_name_zones of z runs number run at is =
    let inside = there runs number run at in
    named z (map of runs) number (get_or-map of runs number None None inside ∙ ap of at ∙ is)
