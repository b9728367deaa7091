-- What a crash leaves while files are given names.
use Rattle.std.proofs.Common.{◌≡◌, inl, inr, ⊎_elim, ℕ, Bool, List, ◌∷◌, ◌++◌, [], map, true, false, Option, Some, refl, sym, ap, ◌∙◌, subst}
use Rattle.std.proofs.lemmas.List.{reverse-append}
use Rattle.placed_file.specs.Placing.{Attempt, IsWhole, LeftSoFar, MightHaveLeft}
use Rattle.placed_file.specs.declared.progress.Progress.{Progress}
use Rattle.command_files.specs.Crash.{LeavesOldOrNew, LeavesOthers}
use Rattle.command_files.specs.Made.{Made}
use Rattle.command_files.specs.MemoryFiles.{tried_of, whole}

-- a file that takes its place as a whole
pub placed_whole : (attempt : Attempt) (before : List Attempt) → IsWhole attempt.progress
    → LeavesOldOrNew attempt.path (λ bytes. bytes ≡ attempt.bytes) before (attempt ∷ before)
placed_whole attempt before is_whole = record {
  any_moment = λ name c. ⊎_elim (λ (was : LeftSoFar before name c). inl was)
      (λ (new : (name ≡ attempt.path) × (d : Option (List ℕ)) × LeftSoFar before name d × MightHaveLeft attempt.progress d attempt.bytes c).
      ⊎_elim (λ (same : c ≡ new.1). inl (subst (λ (o : Option (List ℕ)). LeftSoFar before name o) (sym same) new.2))
      (λ (is : c ≡ Some attempt.bytes). inr (new.0, (attempt.bytes, refl, is)))
      (is_whole new.1 attempt.bytes c new.3));
}

-- one of these bytes, under the name that was wanted
pub placed : (path name bytes : List ℕ) (progress : Progress) (done : Bool) (before after : List Attempt) → path ≡ name → IsWhole progress
    → after ≡ record { path = path; bytes = bytes; progress = progress; done = done } ∷ before → LeavesOldOrNew name (λ b. b ≡ bytes) before after
placed path name bytes progress done before after same is_whole is =
    subst (λ (n : List ℕ). LeavesOldOrNew n (λ b. b ≡ bytes) before after) same
    (subst (λ (tried : List Attempt). LeavesOldOrNew path (λ b. b ≡ bytes) before tried) (sym is)
    (placed_whole (record { path = path; bytes = bytes; progress = progress; done = done }) before is_whole))

-- one that is given a name in some way
pub placed_somehow : (attempt : Attempt) (before : List Attempt) → LeavesOthers attempt.path before (attempt ∷ before)
placed_somehow attempt before = record {
  any_moment = λ name c differs. ⊎_elim (λ (was : LeftSoFar before name c). was)
      (λ (new : (name ≡ attempt.path) × (d : Option (List ℕ)) × LeftSoFar before name d × MightHaveLeft attempt.progress d attempt.bytes c).
      absurd (differs new.0));
}

-- one in memory
one_more : (files : List Made) (file : Made)
    → tried_of (files ++ file ∷ []) ≡ record { path = file.path; bytes = file.bytes; progress = whole; done = true } ∷ tried_of files
one_more files file =
    ap (map (λ (made : Made). let attempt : Attempt = record { path = made.path; bytes = made.bytes; progress = whole; done = true } in attempt))
    (reverse-append files (file ∷ []))

whole_is_whole : IsWhole whole
whole_is_whole old new c =
    ⊎_elim (λ (same : c ≡ old). inl same) (λ (placed : (true ≡ true) × (false ≡ false → c ≡ Some new)). inr (placed.1 refl))

module _ (files after : List Made) (file : Made) (put : after ≡ files ++ file ∷ []) where
  behind : tried_of after ≡ record { path = file.path; bytes = file.bytes; progress = whole; done = true } ∷ tried_of files
  behind = ap tried_of put ∙ one_more files file

  pub put_whole : LeavesOldOrNew file.path (λ bytes. bytes ≡ file.bytes) (tried_of files) (tried_of after)
  put_whole = subst (λ (tried : List Attempt). LeavesOldOrNew file.path (λ bytes. bytes ≡ file.bytes) (tried_of files) tried) (sym behind)
      (placed_whole (record { path = file.path; bytes = file.bytes; progress = whole; done = true }) (tried_of files) whole_is_whole)

  pub put_somehow : LeavesOthers file.path (tried_of files) (tried_of after)
  put_somehow = subst (λ (tried : List Attempt). LeavesOthers file.path (tried_of files) tried) (sym behind)
      (placed_somehow (record { path = file.path; bytes = file.bytes; progress = whole; done = true }) (tried_of files))

-- what leaves the old or the new under a name leaves the others
pub leaves_others : (path : List ℕ) (New : List ℕ → Type 0) (before after : List Attempt)
    → LeavesOldOrNew path New before after → LeavesOthers path before after
leaves_others path New before after leaves = record {
  any_moment = λ name c differs left. ⊎_elim (λ (was : LeftSoFar before name c). was)
      (λ (new : (name ≡ path) × ((bytes : List ℕ) × New bytes × (c ≡ Some bytes))). absurd (differs new.0)) (leaves.any_moment name c left);
}

-- in two parts
pub others_joined : (path : List ℕ) (a b c : List Attempt) → LeavesOthers path a b → LeavesOthers path b c → LeavesOthers path a c
others_joined path a b c first then = record {
  any_moment = λ name left differs is. first.any_moment name left differs (then.any_moment name left differs is);
}

-- one that is written where its name leads
pub written_there : (path name bytes : List ℕ) (progress : Progress) (done : Bool) (before after : List Attempt) → path ≡ name
    → after ≡ record { path = path; bytes = bytes; progress = progress; done = done } ∷ before → LeavesOthers name before after
written_there path name bytes progress done before after same is =
    subst (λ (n : List ℕ). LeavesOthers n before after) same
    (subst (λ (tried : List Attempt). LeavesOthers path before tried) (sym is)
    (placed_somehow (record { path = path; bytes = bytes; progress = progress; done = done }) before))

-- none is
pub others_as_before : (path : List ℕ) (tried : List Attempt) → LeavesOthers path tried tried
others_as_before path tried = record { any_moment = λ name c differs left. left }
