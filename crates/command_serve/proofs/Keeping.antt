-- Files of which those with one name change.
use Rattle.std.proofs.Common.{◌≡◌, ℕ, List, [], Option, Result, Ok, Err, OnOk, OnErr, ap, subst}
use Rattle.image_store.specs.Namespace.{ZonedNamespace}
use Rattle.image_text.specs.Text.{text}
use Rattle.command_files.specs.Crash.{AreAnImage, AreWritten, LeavesOldOrNew}
use Rattle.command_files.specs.Made.{KeepsModes, KeepsOthers, MakesAtMost}
use Rattle.command_files.specs.Surroundings.{ChangesOnly}
use Rattle.command_files.specs.declared.files.Files.{Ghosts}
use Rattle.command_files.proofs.Proved.{leaves_as_before, leaves_weaker, modes_stay, only_one}

module _ {F R W : Type 0} (files : Ghosts F R W) (writes : Type 0) (path : List ℕ) (old new : F) where
  -- an image of a namespace is a whole one
  image_left : (shown : ZonedNamespace) → LeavesOldOrNew path (AreWritten writes (text shown)) (files.tried old) (files.tried new)
      → LeavesOldOrNew path (AreAnImage writes) (files.tried old) (files.tried new)
  image_left shown = leaves_weaker path (AreWritten writes (text shown)) (AreAnImage writes) (λ bytes written. (shown, written)) (files.tried old) (files.tried new)

  -- one was made at most
  pub changed : (shown : ZonedNamespace) → MakesAtMost path (files.made old) (files.made new)
      → LeavesOldOrNew path (AreWritten writes (text shown)) (files.tried old) (files.tried new)
      → KeepsOthers path (files.contents old) (files.contents new) → KeepsModes (files.modes old) (files.modes new) → ChangesOnly files writes path old new
  changed shown made crash others modes = record {
    made = only_one path (files.made old) (files.made new) made;
    crash = image_left shown crash;
    others = others;
    modes = modes;
  }

  -- none was, but one may have been given its name
  pub unsaved : (shown : ZonedNamespace) → files.made new ≡ files.made old
      → LeavesOldOrNew path (AreWritten writes (text shown)) (files.tried old) (files.tried new)
      → files.contents new ≡ files.contents old → files.modes new ≡ files.modes old → ChangesOnly files writes path old new
  unsaved shown made crash contents modes = record {
    made = record { texts = []; made = made };
    crash = image_left shown crash;
    others = λ name differs. ap (λ (held : List ℕ → Option (List ℕ)). held name) contents;
    modes = modes_stay (files.modes old) (files.modes new) modes;
  }

  -- nothing was done
  pub unchanged : files.made new ≡ files.made old → files.tried new ≡ files.tried old → files.contents new ≡ files.contents old
      → files.modes new ≡ files.modes old → ChangesOnly files writes path old new
  unchanged made tried contents modes = record {
    made = record { texts = []; made = made };
    crash = leaves_as_before path (AreAnImage writes) (files.tried old) (files.tried new) tried;
    others = λ name differs. ap (λ (held : List ℕ → Option (List ℕ)). held name) contents;
    modes = modes_stay (files.modes old) (files.modes new) modes;
  }

-- an image was saved, or wasn't
pub changed_or_not : {F R W T E : Type 0} (files : Ghosts F R W) (writes : Type 0) (path : List ℕ) (old new : F) (shown : ZonedNamespace) (result : Result T E)
    → OnOk result (MakesAtMost path (files.made old) (files.made new)) → OnErr result (files.made new ≡ files.made old)
    → LeavesOldOrNew path (AreWritten writes (text shown)) (files.tried old) (files.tried new)
    → OnOk result (KeepsOthers path (files.contents old) (files.contents new)) → OnErr result (files.contents new ≡ files.contents old)
    → OnOk result (KeepsModes (files.modes old) (files.modes new)) → OnErr result (files.modes new ≡ files.modes old) → ChangesOnly files writes path old new
changed_or_not files writes path old new shown (Ok done) made kept crash others contents modes modes_left = changed files writes path old new shown made crash others modes
changed_or_not files writes path old new shown (Err error) made kept crash others contents modes modes_left =
    unsaved files writes path old new shown kept crash contents modes_left

-- files of which those with a name change, which is that of another name's
pub named : {F R W : Type 0} (files : Ghosts F R W) (writes : Type 0) (path wanted : List ℕ) (old new : F) → path ≡ wanted → ChangesOnly files writes path old new
    → ChangesOnly files writes wanted old new
named files writes path wanted old new same changes = subst (λ (name : List ℕ). ChangesOnly files writes name old new) same changes
