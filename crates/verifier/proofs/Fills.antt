-- Lists of facts that are replaced from the front.
use Rattle.std.proofs.Common.{◌≡◌, ℕ, zero, suc, ◌+◌, ◌<◌, ◌++◌, List, [], ◌∷◌, length, set, drop, replicate, ◌∙◌, refl, ap, arith, add-one}
use Rattle.std.proofs.lemmas.List.{append-nil, drop_all}

module _ {D : Type 0} (d : D) where
  filled_suc : (i : ℕ) (ds : List D) → i < length ds
      → set (replicate i d ++ drop i ds) i d ≡ replicate (suc i) d ++ drop (suc i) ds
  filled_suc i [] within = absurd (omega arith)
  filled_suc zero (x ∷ xs) within = refl
  filled_suc (suc i) (x ∷ xs) within = ap (λ l. d ∷ l) (filled_suc i xs (omega arith))

  -- the first i + 1 replaced
  pub filled_more : (i : ℕ) (ds : List D) → i < length ds
      → set (replicate i d ++ drop i ds) i d ≡ replicate (i + 1) d ++ drop (i + 1) ds
  filled_more i ds within = rw add-one (filled_suc i ds within)

  -- one more replaced
  pub one_filled : (i : ℕ) (ds now : List D) → now ≡ replicate i d ++ drop i ds → i < length ds
      → set now i d ≡ replicate (i + 1) d ++ drop (i + 1) ds
  one_filled i ds now is within = ap (λ (l : List D). set l i d) is ∙ filled_more i ds within

  -- and all are
  pub all_filled : (n i : ℕ) (ds now : List D) → now ≡ replicate i d ++ drop i ds → i ≡ n → length ds ≡ n → now ≡ replicate n d
  all_filled n i ds now is all long =
      is ∙ ap (λ (l : List D). replicate i d ++ l) (drop_all i ds (omega (arith, all, long))) ∙ append-nil (replicate i d)
      ∙ ap (λ (k : ℕ). replicate k d) all
