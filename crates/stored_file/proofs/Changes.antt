-- One change more.
use Rattle.std.proofs.Common.{◌≡◌, ◌≤◌, ◌<◌, ◌+◌, ◌⊎◌, inl, inr, ⊎_elim, ℕ, List, [], ◌∷◌, ◌++◌, length, take, refl, sym, ◌∙◌, ap, subst, arith, length-append, length-take, get_or}
use Rattle.std.proofs.lemmas.Bool.{cases_lt}
use Rattle.std.proofs.lemmas.List.{take_all, take-append-le, take_more, get_or-take}
use Rattle.stored_file.specs.File.{FileState, MayLeave, Elapses}
use Rattle.stored_file.specs.Unsynced.{IsLeftOf, Leaves, LeftSince, state_of}
use Rattle.stored_file.specs.declared.change.Change.{Change}

leaves-push : (changes : List Change) (change : Change) (before : List ℕ → Type 0) (c : List ℕ) → Leaves (changes ++ change ∷ []) before c → (old : List ℕ) × Leaves changes before old × IsLeftOf change old c
leaves-push [] change before c left = left
leaves-push (x ∷ changes) change before c left = leaves-push changes change (λ file. (old : List ℕ) × before old × IsLeftOf x old file) c left

pub pushed-leaves : (changes : List Change) (change : Change) (before : List ℕ → Type 0) (old c : List ℕ) → Leaves changes before old → IsLeftOf change old c → Leaves (changes ++ change ∷ []) before c
pushed-leaves [] change before old c was step = (old, was, step)
pushed-leaves (x ∷ changes) change before old c was step = pushed-leaves changes change (λ file. (o : List ℕ) × before o × IsLeftOf x o file) old c was step

module _ (first : List ℕ) (changes later : List Change) (change : Change) (pushed : later ≡ changes ++ change ∷ []) where
  -- what a crash leaves now
  pub left_now : (c : List ℕ) → LeftSince first later (length later) c → (old : List ℕ) × LeftSince first changes (length changes) old × IsLeftOf change old c
  left_now c left =
      let all : take left.0 later ≡ changes ++ change ∷ [] = take_all left.0 later left.1 ∙ pushed in
      let whole : Leaves (changes ++ change ∷ []) (λ file. file ≡ first) c = subst (λ (l : List Change). Leaves l (λ file. file ≡ first) c) all left.3 in
      let parts = leaves-push changes change (λ file. file ≡ first) c whole in
      let every : take (length changes) changes ≡ changes = take_all (length changes) changes (omega arith) in
      (parts.0, (length changes, omega arith, omega arith, subst (λ (l : List Change). Leaves l (λ file. file ≡ first) parts.0) (sym every) parts.1), parts.2)

  size : length later ≡ length changes + 1
  size = ap length pushed ∙ length-append changes (change ∷ [])

  same_before : (k : ℕ) → k ≤ length changes → take k later ≡ take k changes
  same_before k within = ap (λ (l : List Change). take k l) pushed ∙ take-append-le k changes (change ∷ []) within

  pub elapses : (old new : List ℕ) → Elapses (state_of first changes old) (state_of first later new)
  elapses old new = record {
    later = omega (arith, size);
    nothing_else = λ t c early left. elim (cases_lt (length changes) left.0) [
      | inl last ↦ inr (left.0, omega (arith, size, last), left.2, left.3)
      | inr within ↦ inl (left.0, left.1, within, subst (λ (l : List Change). Leaves l (λ file. file ≡ first) c) (same_before left.0 within) left.3)
    ];
    keeps = λ t c early left. (left.0, left.1, omega (arith, size, left.2), subst (λ (l : List Change). Leaves l (λ file. file ≡ first) c) (sym (same_before left.0 left.2)) left.3);
    made = refl;
  }

-- one change more of the first n
pub one_more : (changes given : List Change) (n i : ℕ) (change : Change) → given ≡ changes → i < length (take n given) → change ≡ get_or (take n given) i change → take (i + 1) changes ≡ take i changes ++ change ∷ []
one_more changes given n i change same within is =
    let size : i < n × i < length given = (omega (arith, within, length-take n given), omega (arith, within, length-take n given)) in
    ap (λ (l : List Change). take (i + 1) l) (sym same) ∙ take_more given i change size.1 ∙ ap (λ (x : Change). take i given ++ x ∷ []) (sym (is ∙ get_or-take n given i change size.0)) ∙ ap (λ (l : List Change). take i l ++ change ∷ []) same
