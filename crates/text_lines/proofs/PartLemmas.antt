-- A text in parts, cut at each byte of one kind.
use Rattle.std.proofs.Common.{◌≡◌, ℕ, ◌+◌, ◌≤◌, Bool, true, false, cond, ltb, eqb, List, [], ◌∷◌, length, Some, None, refl, sym, ap, ◌∙◌, arith}
use Rattle.std.specs.List.{slice_split, onto_first, before_first, after_first, position_or_len}
use Rattle.std.proofs.lemmas.Bool.{ltb-true, ltb-false}
use Rattle.std.proofs.lemmas.List.{drop_all}
use Rattle.std.proofs.lemmas.List.Splits.{slice_split_first, slice_split_none, slice_split-cons_yes, slice_split-cons_no}
use Rattle.std.proofs.lemmas.List.Sums.{fails_before_first}
use Rattle.std.proofs.lemmas.Option.{cond_some}
use Rattle.text_lines.specs.Cut.{cut_at}
use Rattle.text_lines.specs.Laws.{HasFirst, SomePartIsThere, UncutIsOnePart, CutIsAfterFirstPart}

abbrev is_at : ℕ → ℕ → Bool
is_at byte b = eqb b byte

none_if : {X : Type 0} (b : Bool) (x : X) → cond b (Some x) None ≡ None → b ≡ false
none_if true x e = absurd cc
none_if false x e = refl

-- where a text isn't cut, it has no such byte
uncut : (byte : ℕ) (text : List ℕ) → cut_at byte text ≡ None → length text ≤ position_or_len (is_at byte) text
uncut byte text e =
    ltb-false _ _ (none_if (ltb (position_or_len (is_at byte) text) (length text)) (before_first (is_at byte) text, after_first (is_at byte) text) e)

-- where it is cut, it has one, and the two parts stand before and behind the first
parted : (byte : ℕ) (text front rest : List ℕ) → cut_at byte text ≡ Some (front, rest)
    → (ltb (position_or_len (is_at byte) text) (length text) ≡ true) × (◌≡◌ {A = List ℕ × List ℕ} (before_first (is_at byte) text, after_first (is_at byte) text) (front, rest))
parted byte text front rest e =
    cond_some (ltb (position_or_len (is_at byte) text) (length text)) (before_first (is_at byte) text, after_first (is_at byte) text) (front, rest) e

-- what a cut gives as the second part stands behind the first such byte
pub cut_behind : (byte : ℕ) (text front rest : List ℕ) → cut_at byte text ≡ Some (front, rest) → rest ≡ after_first (is_at byte) text
cut_behind byte text front rest e = sym (ap (λ (p : List ℕ × List ℕ). p.1) (parted byte text front rest e).1)

-- behind a text without such a byte nothing stands
pub none_behind : (byte : ℕ) (text : List ℕ) → cut_at byte text ≡ None → after_first (is_at byte) text ≡ []
none_behind byte text e = let past = uncut byte text e in drop_all (position_or_len (is_at byte) text + 1) text (omega (arith, past))

-- a text without such a byte is one part
pub split_whole : UncutIsOnePart
split_whole byte text e =
    let past = uncut byte text e in
    slice_split_none (is_at byte) text (λ k d inside. fails_before_first (is_at byte) text k d (omega (arith, past, inside)))

-- else its first part stands before the first such byte
pub split_more : CutIsAfterFirstPart
split_more byte text front rest e =
    let found = parted byte text front rest e in
    slice_split_first (is_at byte) text 0 (ltb-true _ _ found.0) ∙ ap (λ (p : List ℕ × List ℕ). p.0 ∷ slice_split (is_at byte) p.1) found.1

split_some_if : (byte x : ℕ) (xs : List ℕ) (b : Bool) → HasFirst (slice_split (is_at byte) xs) → is_at byte x ≡ b → HasFirst (slice_split (is_at byte) (x ∷ xs))
split_some_if byte x xs true more e = ([], slice_split (is_at byte) xs, slice_split-cons_yes (is_at byte) x xs e)
split_some_if byte x xs false more e = (x ∷ more.0, more.1, slice_split-cons_no (is_at byte) x xs e ∙ ap (onto_first x) more.2)

-- there is a part always
pub split_some : SomePartIsThere
split_some byte [] = ([], [], refl)
split_some byte (x ∷ xs) = split_some_if byte x xs (is_at byte x) (split_some byte xs) refl
