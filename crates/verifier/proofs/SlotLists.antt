-- Lists that tell something of each slot below one, one slot more at a time.
use Rattle.std.proofs.Common.{inl, inr, ◌≡◌, ℕ, ◌+◌, ◌<◌, ◌++◌, List, [], ◌∷◌, length, get_or, Option, None, sym, ap, subst, ◌∙◌, arith}
use Rattle.std.proofs.Math.ListN.{get_or-append}
use Rattle.std.proofs.Math.Seq.{get_or-append_seam}
use Rattle.std.proofs.lemmas.Bool.{cases_lt}

-- what is told of the slots below one, and of itself behind them
pub one_more : {A : Type 0} (at : ℕ → Option A) (n : ℕ) (told : List (Option A)) (next : Option A) → length told ≡ n
    → ((slot : ℕ) → slot < n → get_or told slot None ≡ at slot) → next ≡ at n
    → (slot : ℕ) → slot < n + 1 → get_or (told ++ (next ∷ [])) slot None ≡ at slot
one_more at n told next long are is slot within = elim (cases_lt slot n) [
  | inl before ↦ get_or-append told (next ∷ []) None slot (omega (arith, before, long)) ∙ are slot before
  | inr from ↦
      let last : length told ≡ slot = omega (arith, long, within, from) in
      let same : n ≡ slot = omega (arith, within, from) in
      subst (λ k. get_or (told ++ (next ∷ [])) k None ≡ at k) last
      (get_or-append_seam told next [] None ∙ is ∙ ap at (sym long))
]
