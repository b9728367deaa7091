-- What is left of bytes that are written again.
use Rattle.std.proofs.Common.{suc, ◌≡◌, ◌≤◌, ◌+◌, ◌⊎◌, inl, inr, ⊎_elim, ℕ, List, [], ◌∷◌, ◌++◌, length, take, drop, refl, sym, ◌∙◌, ap, subst, arith, append_assoc, length-append, length-take, length-drop, take-append-drop}
use Rattle.std.proofs.lemmas.List.{take_at, drop_at, drop-drop}
use Rattle.stored_file.specs.File.{is_written, IsMix, Mixed}

mix_old : (was bytes : List ℕ) → length was ≡ length bytes → IsMix was bytes was
mix_old [] [] same = tt
mix_old [] (y ∷ ys) same = absurd (omega (arith, same))
mix_old (x ∷ xs) [] same = absurd (omega (arith, same))
mix_old (x ∷ xs) (y ∷ ys) same = (inl refl, mix_old xs ys (omega (arith, same)))

mix_new : (was bytes : List ℕ) → length was ≡ length bytes → IsMix was bytes bytes
mix_new [] [] same = tt
mix_new [] (y ∷ ys) same = absurd (omega (arith, same))
mix_new (x ∷ xs) [] same = absurd (omega (arith, same))
mix_new (x ∷ xs) (y ∷ ys) same = (inr refl, mix_new xs ys (omega (arith, same)))

-- a mix of the same is the same
pub mix_same : (xs zs : List ℕ) → IsMix xs xs zs → zs ≡ xs
mix_same [] [] mixes = refl
mix_same [] (z ∷ zs) mixes = absurd mixes
mix_same (x ∷ xs) [] mixes = absurd mixes
mix_same (x ∷ xs) (z ∷ zs) mixes =
    let first : z ≡ x = ⊎_elim (λ (is : z ≡ x). is) (λ (is : z ≡ x). is) mixes.0 in
    let rest : zs ≡ xs = mix_same xs zs mixes.1 in
    cc (first, rest)

-- and as long
pub mix_size : (xs ys zs : List ℕ) → IsMix xs ys zs → (length zs ≡ length xs) × (length ys ≡ length xs)
mix_size [] [] [] mixes = (refl, refl)
mix_size [] [] (z ∷ zs) mixes = absurd mixes
mix_size [] (y ∷ ys) zs mixes = absurd mixes
mix_size (x ∷ xs) [] zs mixes = absurd mixes
mix_size (x ∷ xs) (y ∷ ys) [] mixes = absurd mixes
mix_size (x ∷ xs) (y ∷ ys) (z ∷ zs) mixes =
    let rest = mix_size xs ys zs mixes.1 in
    (ap suc rest.0, ap suc rest.1)

module _ (at : ℕ) (bytes old : List ℕ) (long : at + length bytes ≤ length old) where
  in_parts : old ≡ take at old ++ take (length bytes) (drop at old) ++ drop (at + length bytes) old
  in_parts =
      sym (take-append-drop at old)
      ∙ ap (λ (l : List ℕ). take at old ++ l) (sym (take-append-drop (length bytes) (drop at old)) ∙ ap (λ (l : List ℕ). take (length bytes) (drop at old) ++ l) (drop-drop (length bytes) at old))
      ∙ sym (append_assoc (take at old) (take (length bytes) (drop at old)) (drop (at + length bytes) old))

  size_before : length (take at old) ≡ at
  size_before = omega (arith, long, length-take at old)

  size_there : length (take (length bytes) (drop at old)) ≡ length bytes
  size_there = omega (arith, long, length-take (length bytes) (drop at old), length-drop at old)

  -- nothing of it is there
  pub mixed_old : (new : List ℕ) → new ≡ old → Mixed at bytes old new
  mixed_old new same = record {
    front = take at old;
    was = take (length bytes) (drop at old);
    mix = take (length bytes) (drop at old);
    behind = drop (at + length bytes) old;
    size = size_before;
    parts = in_parts;
    is = same ∙ in_parts;
    mixes = mix_old (take (length bytes) (drop at old)) bytes size_there;
  }

  -- all of it
  pub mixed_new : (new : List ℕ) → new ≡ is_written at bytes old → Mixed at bytes old new
  mixed_new new written = record {
    front = take at old;
    was = take (length bytes) (drop at old);
    mix = bytes;
    behind = drop (at + length bytes) old;
    size = size_before;
    parts = in_parts;
    is = written;
    mixes = mix_new (take (length bytes) (drop at old)) bytes size_there;
  }

  -- where the same bytes were there, nothing changes
  pub written_again : take (length bytes) (drop at old) ≡ bytes → is_written at bytes old ≡ old
  written_again same = ap (λ (l : List ℕ). take at old ++ l ++ drop (at + length bytes) old) (sym same) ∙ sym in_parts
