-- What sections spell, one after another.
use Rattle.std.proofs.Common.{◌≡◌, ◌<◌, ◌+◌, ℕ, zero, suc, List, [], ◌∷◌, ◌++◌, length, map, take, get_or, Option, Some, None, sym, ap, ◌∙◌, arith}
use Rattle.std.specs.Prelude.{Vec}
use Rattle.std.specs.declared.alloc.Global.{Global}
use Rattle.std.proofs.lemmas.List.{length-map, map_push, take_more}
use Rattle.durable_machine.specs.Batches.{bytes_of}

module _ {X K : Type 0} (read : List ℕ → Option X) (told : K → X) where
  -- the sections spell what is told by these
  abbrev AreSpelled : List (Vec ℕ Global) → List K → Type 0
  AreSpelled sections kept = map read (bytes_of sections) ≡ map Some (map told kept)

  -- as many as there are of them
  pub as_many : (sections : List (Vec ℕ Global)) (kept : List K) → AreSpelled sections kept → length kept ≡ length sections
  as_many sections kept spelled =
      sym (length-map kept told) ∙ sym (length-map (map told kept) Some) ∙ sym (ap length spelled) ∙ length-map (bytes_of sections) read
      ∙ length-map sections (λ (v : Vec ℕ Global). v.items)

  -- one more of both
  pushed : (sections : List (Vec ℕ Global)) (v : Vec ℕ Global) (kept : List K) (k : K) → AreSpelled sections kept → read v.items ≡ Some (told k)
      → AreSpelled (sections ++ v ∷ []) (kept ++ k ∷ [])
  pushed sections v kept k spelled is =
      ap (map read) (map_push (λ (w : Vec ℕ Global). w.items) sections v)
      ∙ map_push read (bytes_of sections) v.items
      ∙ ap (λ (l : List (Option X)). l ++ read v.items ∷ []) spelled
      ∙ ap (λ (o : Option X). map Some (map told kept) ++ o ∷ []) is
      ∙ sym (map_push Some (map told kept) (told k))
      ∙ ap (map Some) (sym (map_push told kept k))

  -- one section more is read
  pub one_read : (sections : List (Vec ℕ Global)) (n : ℕ) (v d : Vec ℕ Global) (kept new : List K) (k : K) → n < length sections
      → AreSpelled (take n sections) kept → v ≡ get_or sections n d → read v.items ≡ Some (told k) → new ≡ kept ++ k ∷ []
      → AreSpelled (take (n + 1) sections) new
  one_read sections n v d kept new k within spelled at is is_new =
      let more : take (n + 1) sections ≡ take n sections ++ v ∷ [] =
      take_more sections n d within ∙ ap (λ (w : Vec ℕ Global). take n sections ++ w ∷ []) (sym at) in
      ap (λ (l : List (Vec ℕ Global)). map read (bytes_of l)) more
      ∙ pushed (take n sections) v kept k spelled is
      ∙ ap (λ (l : List K). map Some (map told l)) (sym is_new)

  -- and one more is spelled
  pub one_written : (kept : List K) (n : ℕ) (k d : K) (sections new : List (Vec ℕ Global)) (v : Vec ℕ Global) → n < length kept
      → AreSpelled sections (take n kept) → k ≡ get_or kept n d → read v.items ≡ Some (told k) → new ≡ sections ++ v ∷ []
      → AreSpelled new (take (n + 1) kept)
  one_written kept n k d sections new v within spelled at is is_new =
      let more : take (n + 1) kept ≡ take n kept ++ k ∷ [] = take_more kept n d within ∙ ap (λ (j : K). take n kept ++ j ∷ []) (sym at) in
      ap (λ (l : List (Vec ℕ Global)). map read (bytes_of l)) is_new
      ∙ pushed sections v (take n kept) k spelled is
      ∙ ap (λ (l : List K). map Some (map told l)) (sym more)

-- where one of the sections spells nothing, all of them don't
pub none_spelled : {X : Type 0} (read : List ℕ → Option X) (sections : List (Vec ℕ Global)) (n : ℕ) (v d : Vec ℕ Global) → n < length sections
    → v ≡ get_or sections n d → read v.items ≡ None → (xs : List X) → map read (bytes_of sections) ≡ map Some xs → ⊥
none_spelled read [] n v d within at none xs same = omega (arith, within)
none_spelled read (w ∷ ws) zero v d within at none [] same = absurd cc
none_spelled read (w ∷ ws) zero v d within at none (x ∷ xs) same =
    let is = ap (λ (u : Vec ℕ Global). read u.items) at in absurd (cc (is, none, same))
none_spelled read (w ∷ ws) (suc n) v d within at none [] same = absurd cc
none_spelled read (w ∷ ws) (suc n) v d within at none (x ∷ xs) same = none_spelled read ws n v d (omega (arith, within)) at none xs cc
