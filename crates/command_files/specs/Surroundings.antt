-- What stands around a command.
use Rattle.std.specs.Prelude.{◌≡◌, ℕ, List, Option}
use Rattle.command_files.specs.Crash.{AreAnImage, LeavesOldOrNew}
use Rattle.command_files.specs.Made.{KeepsModes, KeepsOthers, Made, MakesAtMost, MakesOne, MakesOnly}
use Rattle.command_files.specs.declared.files.Files.{Ghosts}

-- what a command finds and leaves of files
pub record Surroundings : Type 1 where
  -- those that it reads in pieces tell of their bytes
  pub reads : Type 0
  -- those that it writes in pieces do
  pub writes : Type 0
  -- the bytes of each name before it, where they are told
  pub contents : List ℕ → Option (List ℕ)
  -- the files that were made before it, and those that were by its end, where they are told
  pub before : Option (List Made)
  pub after : Option (List Made)

-- the surroundings of a command that finds files so and leaves them so
abbrev pub around : {F R W : Type 0} → Ghosts F R W → Type 0 → Type 0 → F → F → Surroundings
around files reads writes old new = record {
  reads = reads;
  writes = writes;
  contents = files.contents old;
  before = files.made old;
  after = files.made new;
}

-- files with this name alone are made, a crash at any moment leaves under it what it might have left before or a whole image, every
-- other has the bytes that it had, and each has the permissions that it had
pub record ChangesOnly {F R W : Type 0} (files : Ghosts F R W) (writes : Type 0) (path : List ℕ) (old new : F) : Type 0 where
  pub made : MakesOnly path (files.made old) (files.made new)
  pub crash : LeavesOldOrNew path (AreAnImage writes) (files.tried old) (files.tried new)
  pub others : KeepsOthers path (files.contents old) (files.contents new)
  pub modes : KeepsModes (files.modes old) (files.modes new)

-- one file is made, with this name; every other has the bytes that it had, and each has the permissions that it had
abbrev pub Replaces : {F R W : Type 0} → Ghosts F R W → List ℕ → F → F → Type 0
Replaces files path old new =
    MakesOne path (files.made old) (files.made new) × KeepsOthers path (files.contents old) (files.contents new)
    × KeepsModes (files.modes old) (files.modes new)

-- none is made, or that one
abbrev pub MayReplace : {F R W : Type 0} → Ghosts F R W → List ℕ → F → F → Type 0
MayReplace files path old new =
    MakesAtMost path (files.made old) (files.made new) × KeepsOthers path (files.contents old) (files.contents new)
    × KeepsModes (files.modes old) (files.modes new)

-- none is made, and each has the bytes that it had
abbrev pub KeepsAll : {F R W : Type 0} → Ghosts F R W → F → F → Type 0
KeepsAll files old new = (files.made new ≡ files.made old) × (files.contents new ≡ files.contents old)
