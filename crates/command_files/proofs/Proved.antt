-- What the proofs of other crates cite of this one.
use Rattle.std.proofs.Common.{◌≡◌, ⊎_elim, ℕ, List, [], ◌∷◌, ◌++◌, inl, inr, Option, Some, None, IfSome, ◌∙◌, ap, refl, subst, sym}
use Rattle.std.specs.Borrow.{Bor}
use Rattle.std.proofs.lemmas.Option.{IfSome_then}
use Rattle.command_files.specs.declared.failure.Failure.{Failure}
use Rattle.command_files.specs.declared.failure.Failure.TheVariants.{CannotRead, CannotWrite, NoMemory}
use Rattle.command_files.specs.declared.file_cause.FileCause.{FileCause}
use Rattle.placed_file.specs.Placing.{Attempt, LeftSoFar}
use Rattle.command_files.specs.Crash.{AreAnImage, LeavesOldOrNew}
use Rattle.command_files.specs.Made.{KeepsModes, KeepsOthers, Made, MakesAtMost, MakesOnly, then_all, then_made}
use Rattle.command_files.specs.Surroundings.{ChangesOnly}
use Rattle.command_files.specs.declared.files.Files.{Ghosts}
use Rattle.command_files.specs.UserTold.{IsUnread, IsUnwritten}

-- what holds where this file can't be written, for whatever cause, and where memory is wanting, holds of each such failure
pub unwritten_holds : (path : Bor (List ℕ)) (P : Failure → Type 0) → ((told : Bor (List ℕ)) (cause : FileCause) → told ≡ path → P (CannotWrite told cause)) → P NoMemory
    → (failure : Failure) → IsUnwritten path failure → P failure
unwritten_holds path P refused none (CannotWrite told cause) is = refused told cause is
unwritten_holds path P refused none NoMemory is = none
unwritten_holds path P refused none _ is = absurd is

-- what holds where this file can't be read, for whatever cause, and where memory is wanting, holds of each such failure
pub unread_holds : (path : Bor (List ℕ)) (P : Failure → Type 0) → ((told : Bor (List ℕ)) (cause : FileCause) → told ≡ path → P (CannotRead told cause)) → P NoMemory
    → (failure : Failure) → IsUnread path failure → P failure
unread_holds path P refused none (CannotRead told cause) is = refused told cause is
unread_holds path P refused none NoMemory is = none
unread_holds path P refused none _ is = absurd is

-- what holds of the bytes that were read of a file holds of those that the file of the wanted name is told to have
pub read_holds : (contents : List ℕ → Option (List ℕ)) (path wanted read slice : List ℕ) (P : List ℕ → Type 0) → path ≡ wanted → slice ≡ read
    → IfSome (contents path) (λ bytes. read ≡ bytes) → P slice → IfSome (contents wanted) P
read_holds contents path wanted read slice P is_wanted slice_is read_is holds =
    subst (λ (p : List ℕ). IfSome (contents p) P) is_wanted
    (IfSome_then (contents path) read_is (λ bytes same. subst P (slice_is ∙ same) holds))

-- the file that is told is the one that was named so
pub same_name : {told path : Bor (List ℕ)} {named : List ℕ} → told ≡ path → path.now ≡ named → told.now ≡ named
same_name is is_named = ap (λ (b : Bor (List ℕ)). b.now) is ∙ is_named

-- a file was replaced, of the name that was wanted, behind what left the bytes of all names as they were
pub others_kept : (path wanted : List ℕ) (before between after : List ℕ → Option (List ℕ)) → path ≡ wanted → between ≡ before
    → KeepsOthers path between after → KeepsOthers wanted before after
others_kept path wanted before between after same kept others =
    subst (λ (name : List ℕ). KeepsOthers name before after) same
    (subst (λ (contents : List ℕ → Option (List ℕ)). KeepsOthers path contents after) kept others)

-- modes were kept behind what left them
pub modes_kept : (before between after : List ℕ → Option ℕ) → between ≡ before → KeepsModes between after → KeepsModes before after
modes_kept before between after same kept = subst (λ (modes : List ℕ → Option ℕ). KeepsModes modes after) same kept

itself : (mode : Option ℕ) → IfSome mode (λ m. mode ≡ Some m)
itself None = tt
itself (Some m) = refl

-- modes that stay are kept
pub modes_stay : (before after : List ℕ → Option ℕ) → after ≡ before → KeepsModes before after
modes_stay before after same name = subst (λ (modes : List ℕ → Option ℕ). IfSome (before name) (λ mode. modes name ≡ Some mode)) (sym same) (itself (before name))

-- modes were kept, and kept again
modes_joined : (a b c : Option ℕ) → IfSome a (λ mode. b ≡ Some mode) → IfSome b (λ mode. c ≡ Some mode) → IfSome a (λ mode. c ≡ Some mode)
modes_joined None b c first then = tt
modes_joined (Some mode) b c first then = subst (λ (o : Option ℕ). IfSome o (λ m. c ≡ Some m)) first then

module _ (path : List ℕ) (New : List ℕ → Type 0) where
  -- nothing is given a name
  pub leaves_as_before : (a b : List Attempt) → b ≡ a → LeavesOldOrNew path New a b
  leaves_as_before a b same = record { any_moment = λ name c left. inl (subst (λ (tried : List Attempt). LeftSoFar tried name c) same left) }

  -- in two parts
  pub leaves_joined : (a b c : List Attempt) → LeavesOldOrNew path New a b → LeavesOldOrNew path New b c → LeavesOldOrNew path New a c
  leaves_joined a b c first then = record {
    any_moment = λ name left is. ⊎_elim (λ (was : LeftSoFar b name left). first.any_moment name left was)
        (λ (new : (name ≡ path) × ((bytes : List ℕ) × New bytes × (left ≡ Some bytes))). inr new) (then.any_moment name left is);
  }

  -- of more files
  pub leaves_weaker : (More : List ℕ → Type 0) → ((bytes : List ℕ) → New bytes → More bytes) → (a b : List Attempt)
      → LeavesOldOrNew path New a b → LeavesOldOrNew path More a b
  leaves_weaker More more a b leaves = record {
    any_moment = λ name c left. ⊎_elim (λ (was : LeftSoFar a name c). inl was)
        (λ (new : (name ≡ path) × ((bytes : List ℕ) × New bytes × (c ≡ Some bytes))). inr (new.0, (new.1.0, more new.1.0 new.1.1, new.1.2)))
        (leaves.any_moment name c left);
  }

  -- behind what gave no name, under the name that was wanted
  pub leaves_behind : (wanted : List ℕ) (a b c : List Attempt) → path ≡ wanted → b ≡ a → LeavesOldOrNew path New b c → LeavesOldOrNew wanted New a c
  leaves_behind wanted a b c same kept leaves =
      subst (λ (name : List ℕ). LeavesOldOrNew name New a c) same (subst (λ (tried : List Attempt). LeavesOldOrNew path New tried c) kept leaves)

module _ (path : List ℕ) where
  all_joined : (before : Option (List Made)) (earlier later : List (List ℕ)) → then_all (then_all before path earlier) path later ≡ then_all before path (later ++ earlier)
  all_joined before earlier [] = refl
  all_joined before earlier (bytes ∷ later) = ap (λ (made : Option (List Made)). then_made made path bytes) (all_joined before earlier later)

  -- at most one file with a name is only files with that name
  pub only_one : (before after : Option (List Made)) → MakesAtMost path before after → MakesOnly path before after
  only_one before after (inl same) = record { texts = []; made = same }
  only_one before after (inr one) = record { texts = one.bytes ∷ []; made = one.made }

  makes_more : (a b c : Option (List Made)) → MakesOnly path a b → MakesOnly path b c → MakesOnly path a c
  makes_more a b c first then = record {
    texts = then.texts ++ first.texts;
    made = then.made ∙ ap (λ (made : Option (List Made)). then_all made path then.texts) first.made ∙ all_joined a first.texts then.texts;
  }

module _ {F R W : Type 0} (files : Ghosts F R W) (writes : Type 0) (path : List ℕ) where
  -- files that stay what they were
  pub changes_none : (f : F) → ChangesOnly files writes path f f
  changes_none f = record {
    made = record { texts = []; made = refl };
    crash = leaves_as_before path (AreAnImage writes) (files.tried f) (files.tried f) refl;
    others = λ name differs. refl;
    modes = modes_stay (files.modes f) (files.modes f) refl;
  }

  -- files of which those with one name are made, in two parts
  pub changes_join : (a b c : F) → ChangesOnly files writes path a b → ChangesOnly files writes path b c → ChangesOnly files writes path a c
  changes_join a b c first then = record {
    made = makes_more path (files.made a) (files.made b) (files.made c) first.made then.made;
    crash = leaves_joined path (AreAnImage writes) (files.tried a) (files.tried b) (files.tried c) first.crash then.crash;
    others = λ name differs. then.others name differs ∙ first.others name differs;
    modes = λ name. modes_joined (files.modes a name) (files.modes b name) (files.modes c name) (first.modes name) (then.modes name);
  }
