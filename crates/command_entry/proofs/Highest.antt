-- What is behind the highest of some numbers isn't one of them.
use Rattle.std.proofs.Common.{◌≡◌, ◌==◌, ◌||◌, ◌<◌, ◌+◌, ◌^◌, sym, ℕ, Bool, true, false, List, [], ◌∷◌, Option, Some, None, refl, ap, ◌∙◌, subst, arith, max, fold}
use Rattle.std.specs.List.{list_any, reduce}
use Rattle.std.specs.Option.{IfSome}
use Rattle.std.proofs.lemmas.Bool.Decides.{nat_tests}
use Rattle.command_entry.specs.Identifiers.{IsBehind, IsLowestFree, IsNextIdentifier, is_used}

not_same : (x cid : ℕ) → x < cid → (x == cid) ≡ false
not_same x cid small = grind (arith, nat_tests)

below : (xs : List ℕ) (a cid : ℕ) → fold max a xs < cid → (a < cid) × (is_used cid xs ≡ false)
below [] a cid h = (h, refl)
below (x ∷ xs) a cid h =
    let rest = below xs (max a x) cid h in
    (omega (arith, rest.0), ap (λ (b : Bool). b || is_used cid xs) (not_same x cid (omega (arith, rest.0))) ∙ rest.1)

pub free_behind : (used : List ℕ) (highest : ℕ) → reduce max used ≡ Some highest → is_used (highest + 1) used ≡ false
free_behind [] highest is = absurd cc
free_behind (x ∷ xs) highest is =
    let same : fold max x xs ≡ highest = cc in
    let rest = below xs x (highest + 1) (omega (arith, same)) in
    ap (λ (b : Bool). b || is_used (highest + 1) xs) (not_same x (highest + 1) rest.0) ∙ rest.1

pub free_begin : (used : List ℕ) → reduce max used ≡ None → is_used 1 used ≡ false
free_begin [] is = refl
free_begin (x ∷ xs) is = absurd cc

-- the lowest that is free, behind the highest that there is
pub behind_last : (used : List ℕ) (next : Option ℕ) → reduce max used ≡ Some 65535 → IfSome next (λ cid. is_used cid used ≡ false)
    → IfSome next (λ cid. (lower : ℕ) → lower < cid → is_used lower used ≡ true) → (next ≡ None → (number : ℕ) → number < 2 ^ 16 → is_used number used ≡ true) → IsNextIdentifier used next
behind_last used (Some cid) is free lowest none =
    subst (λ (highest : Option ℕ). IsBehind used highest (Some cid)) (sym is) ((λ small. absurd (omega (arith, small))), λ _. (free, lowest))
behind_last used None is free lowest none =
    subst (λ (highest : Option ℕ). IsBehind used highest None) (sym is) ((λ small. absurd (omega (arith, small))), λ _. none refl)
