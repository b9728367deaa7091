-- Ordered lists of checks, and the first that fails.
use Rattle.std.proofs.Common.{◌≡◌, ℕ, zero, suc, Bool, true, false, cond, List, [], ◌∷◌, ◌++◌, get_or, Option, Some, None, Result, Ok, Err, refl, ap, ◌∙◌}
use Rattle.std.specs.Option.{option_or}
use Rattle.common_definitions.specs.Checks.{demand, first_failed, unless_failed}
use Rattle.common_definitions.specs.FirstCheck.{FailsFirst, FirstFailedIsFirst, NoneFails, NoFaultWhereNoneFails}
use Rattle.common_definitions.proofs.Readings.{no_fault}

none_fails : {F : Type 0} (checks : List (Option F)) → first_failed checks ≡ None → NoneFails checks
none_fails [] e = tt
none_fails (None ∷ rest) e = (refl, none_fails rest e)
none_fails (Some fault ∷ rest) e = absurd cc

none_found : {F : Type 0} (checks : List (Option F)) → NoneFails checks → first_failed checks ≡ None
none_found [] pass = refl
none_found (None ∷ rest) pass = none_found rest pass.1
none_found (Some fault ∷ rest) pass = let e = pass.0 in absurd cc

first_is : {F : Type 0} (checks : List (Option F)) (fault : F) → first_failed checks ≡ Some fault → FailsFirst checks fault
first_is [] fault e = absurd cc
first_is {F} (None ∷ rest) fault e =
    let later = first_is rest fault e in
    record { before = None ∷ later.before; after = later.after; are = ap (λ (cs : List (Option F)). None ∷ cs) later.are; pass = (refl, later.pass) }
first_is {F} (Some first ∷ rest) fault e = record { before = []; after = rest; are = ap (λ (check : Option F). check ∷ rest) e; pass = tt }

first_behind : {F : Type 0} (before after : List (Option F)) (fault : F) → NoneFails before → first_failed (before ++ Some fault ∷ after) ≡ Some fault
first_behind [] after fault pass = refl
first_behind (None ∷ before) after fault pass = first_behind before after fault pass.1
first_behind (Some other ∷ before) after fault pass = let e = pass.0 in absurd cc

pub first_failed_is_first : (F : Type 0) → FirstFailedIsFirst F
first_failed_is_first F = λ checks fault. (first_is checks fault, λ first. ap first_failed first.are ∙ first_behind first.before first.after fault first.pass)

pub no_fault_where_none_fails : (F : Type 0) → NoFaultWhereNoneFails F
no_fault_where_none_fails F = λ checks. (none_fails checks, none_found checks)

-- where no check fails, each passes,
pub passed : {F : Type 0} (checks : List (Option F)) (i : ℕ) → first_failed checks ≡ None → get_or checks i None ≡ None
passed [] zero none = refl
passed [] (suc i) none = refl
passed (None ∷ checks) zero none = refl
passed (None ∷ checks) (suc i) none = passed checks i none
passed (Some fault ∷ checks) i none = cc

-- and what one that passes demands holds
pub demanded : {F : Type 0} (test : Bool) (fault : F) → demand test fault ≡ None → test ≡ true
demanded true fault none = refl
demanded false fault none = cc

-- what is demanded and holds passes
pub met : {F : Type 0} (test : Bool) (fault : F) → test ≡ true → demand test fault ≡ None
met true fault holds = refl
met false fault holds = cc

-- what a guard lets through
pub guarded : {X F : Type 0} (test : Bool) (r : Result X F) (fault : F) (x : X) → cond test r (Err fault) ≡ Ok x → (test ≡ true) × (r ≡ Ok x)
guarded true r fault x e = (refl, e)
guarded false r fault x e = cc

-- where a value is given, no check fails
pub none_failed : {X F : Type 0} (why : Option F) (x y : X) → unless_failed why x ≡ Ok y → why ≡ None
none_failed why x y given = (no_fault why (Ok x) y given).0

-- and the value is the one that was to be given
pub value_given : {X F : Type 0} (why : Option F) (x y : X) → Ok y ≡ unless_failed why x → y ≡ x
value_given None x y given = cc
value_given (Some fault) x y given = cc

-- the first check that fails is among the first ones, or it is the first of the others
pub joined : {F : Type 0} (first rest : List (Option F)) → first_failed (first ++ rest) ≡ option_or (first_failed first) (first_failed rest)
joined [] rest = refl
joined (None ∷ first) rest = joined first rest
joined (Some fault ∷ first) rest = refl
