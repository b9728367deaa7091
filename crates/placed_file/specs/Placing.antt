-- A new file on its way to a name, and what a crash leaves under the name.
use Rattle.std.specs.Prelude.{◌≡◌, ◌⊎◌, ◌&&◌, ◌||◌, not, ℕ, Bool, true, false, List, [], ◌∷◌, Option, Some, None}
use Rattle.placed_file.specs.declared.progress.Progress.{Progress}

-- it is written, and nothing more was done
abbrev pub begun : Progress
begun = record { synced = false; tried = false; named = false; early = false; settled = false }

-- it was to be brought to the disk
abbrev pub after_sync : Bool → Progress → Progress
after_sync done p = record p { synced = p.synced || done }

-- it was to be given the name. It may have it then, whatever was answered
abbrev pub after_rename : Bool → Progress → Progress
after_rename done p = record p { tried = true; named = p.named || done; early = p.early || not p.synced }

-- the name was to be brought to the disk
abbrev pub after_settling : Bool → Progress → Progress
after_settling done p = record p { settled = p.settled || (p.named && done) }

-- what a crash now leaves under the name, where it led to the old bytes (None where no file had it) and the new file has these: the
-- old ones until the name is on the disk, and once it may lead to the new file, what is left of that: where the bytes aren't on the
-- disk, anything. That this is so of the files of the system is a premise on the system
abbrev pub LeavesUnder : Progress → Option (List ℕ) → List ℕ → Option (List ℕ) → Type 0
LeavesUnder p old new c = ((p.settled ≡ false) × (c ≡ old)) ⊎ ((p.tried ≡ true) × (p.synced ≡ true → c ≡ Some new))

-- what it might have left at some moment since the file was written
abbrev pub MightHaveLeft : Progress → Option (List ℕ) → List ℕ → Option (List ℕ) → Type 0
MightHaveLeft p old new c = (c ≡ old) ⊎ ((p.tried ≡ true) × (p.early ≡ false → c ≡ Some new))

-- all of the old, or all of the new
abbrev pub IsOldOrNew : Option (List ℕ) → List ℕ → Option (List ℕ) → Type 0
IsOldOrNew old new c = (c ≡ old) ⊎ (c ≡ Some new)

-- at each moment since it was written a crash leaves all of the old, or all of the new
abbrev pub IsWhole : Progress → Type 0
IsWhole p = (old : Option (List ℕ)) (new : List ℕ) (c : Option (List ℕ)) → MightHaveLeft p old new c → IsOldOrNew old new c

-- from now on a crash leaves the new
abbrev pub IsPlaced : Progress → Type 0
IsPlaced p = (old : Option (List ℕ)) (new : List ℕ) (c : Option (List ℕ)) → LeavesUnder p old new c → c ≡ Some new

-- a file that was to be given a name, what was done for it, and whether it was told as done
pub record Attempt : Type 0 where
  pub path : List ℕ
  pub bytes : List ℕ
  pub progress : Progress
  pub done : Bool

-- what a crash might have left under a name at some moment so far, where these were to be given names, of which the last stands first:
-- a file of these bytes, or what stood there at first (None)
abbrev pub LeftSoFar : List Attempt → List ℕ → Option (List ℕ) → Type 0
LeftSoFar [] name c = c ≡ None
LeftSoFar (attempt ∷ before) name c =
    LeftSoFar before name c ⊎ ((name ≡ attempt.path) × (d : Option (List ℕ)) × LeftSoFar before name d × MightHaveLeft attempt.progress d attempt.bytes c)
