-- Lists of facts that are joined from the front.
use Rattle.std.proofs.Common.{◌≡◌, ℕ, zero, suc, ◌+◌, ◌<◌, List, [], ◌∷◌, length, get_or, set, ◌∙◌, refl, ap, arith, add-one, subst}
use Rattle.accepted_programs.specs.Cells.{joined_each}

module _ {A : Type 0} (join : A → A → A) where
  -- ds, its first i joined with those of es
  abbrev pub joined_upto : ℕ → List A → List A → List A
  joined_upto zero ds es = ds
  joined_upto (suc i) (d ∷ ds) (e ∷ es) = join d e ∷ joined_upto i ds es
  joined_upto (suc i) ds _ = ds

  joined_suc : (i : ℕ) (ds es : List A) (x y : A) → i < length ds → length ds ≡ length es
      → set (joined_upto i ds es) i (join (get_or (joined_upto i ds es) i x) (get_or es i y)) ≡ joined_upto (suc i) ds es
  joined_suc i [] es x y within same = absurd (omega arith)
  joined_suc i (d ∷ ds) [] x y within same = absurd (omega arith)
  joined_suc zero (d ∷ ds) (e ∷ es) x y within same = refl
  joined_suc (suc i) (d ∷ ds) (e ∷ es) x y within same =
      ap (λ l. join d e ∷ l) (joined_suc i ds es x y (omega arith) (omega arith))

  -- one more
  pub joined_more : (i : ℕ) (ds es : List A) (x y : A) → i < length ds → length ds ≡ length es
      → set (joined_upto i ds es) i (join (get_or (joined_upto i ds es) i x) (get_or es i y)) ≡ joined_upto (i + 1) ds es
  joined_more i ds es x y within same = rw add-one (joined_suc i ds es x y within same)

  -- where the next ones are joined in place of it
  pub one_joined : (i : ℕ) (ds es now : List A) (x y z : A) → now ≡ joined_upto i ds es → z ≡ join (get_or now i x) (get_or es i y)
      → i < length ds → length ds ≡ length es → set now i z ≡ joined_upto (i + 1) ds es
  one_joined i ds es now x y z is z_is within same =
      ap (set now i) z_is ∙ ap (λ (l : List A). set l i (join (get_or l i x) (get_or es i y))) is ∙ joined_more i ds es x y within same

  all_joined : (ds es : List A) → length ds ≡ length es → joined_upto (length ds) ds es ≡ joined_each join ds es
  all_joined [] es same = refl
  all_joined (d ∷ ds) [] same = absurd (omega arith)
  all_joined (d ∷ ds) (e ∷ es) same = ap (λ l. join d e ∷ l) (all_joined ds es (omega arith))

  -- rows of this length, joined to their end
  pub joined_rows : (n : ℕ) (ds es : List A) → length ds ≡ n → length es ≡ n → joined_upto n ds es ≡ joined_each join ds es
  joined_rows n ds es long same =
      subst (λ n. joined_upto n ds es ≡ joined_each join ds es) long (all_joined ds es (omega arith))

  -- where so many of them are joined in place of them
  pub each_joined : (n i : ℕ) (ds es now : List A) → now ≡ joined_upto i ds es → i ≡ n → length ds ≡ n → length es ≡ n
      → now ≡ joined_each join ds es
  each_joined n i ds es now is all long same =
      is ∙ ap (λ (k : ℕ). joined_upto k ds es) all ∙ joined_rows n ds es long same
