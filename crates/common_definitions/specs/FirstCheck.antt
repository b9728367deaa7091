-- What the first check that fails is.
use Rattle.std.specs.Prelude.{◌≡◌, ◌↔◌, List, ◌∷◌, ◌++◌, Option, Some, None}
use Rattle.std.specs.List.{AllByRecursion}
use Rattle.common_definitions.specs.Checks.{first_failed}

-- none of these checks fails
abbrev pub NoneFails : {F : Type 0} → List (Option F) → Type 0
NoneFails checks = AllByRecursion (λ check. check ≡ None) checks

-- one of these checks fails with the fault, and none before it fails
pub record FailsFirst {F : Type 0} (checks : List (Option F)) (fault : F) : Type 0 where
  pub before : List (Option F)
  pub after : List (Option F)
  pub are : checks ≡ before ++ Some fault ∷ after
  pub pass : NoneFails before

-- the fault of a list of checks is that of the first one that fails
abbrev pub FirstFailedIsFirst : Type 0 → Type 0
FirstFailedIsFirst F = (checks : List (Option F)) (fault : F) → (first_failed checks ≡ Some fault) ↔ FailsFirst checks fault

-- a list of checks has no fault just where none fails
abbrev pub NoFaultWhereNoneFails : Type 0 → Type 0
NoFaultWhereNoneFails F = (checks : List (Option F)) → (first_failed checks ≡ None) ↔ NoneFails checks
