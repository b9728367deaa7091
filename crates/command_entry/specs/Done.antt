-- What `entry` does (profile).
use Rattle.std.specs.Prelude.{◌≡◌, ◌⊎◌, ℕ, List, Option, Some, None}
use Rattle.command_files.specs.Made.{Made}
use Rattle.command_entry.specs.Added.{AddsEntry}
use Rattle.command_entry.specs.Printed.{PrintsEntry}

-- one line is printed, and no file is made
pub record PrintsLine (printed prints : Option (List ℕ)) (old new : Option (List Made))
    (contents after : List ℕ → Option (List ℕ)) : Type 0 where
  pub line : PrintsEntry printed prints
  pub made : new ≡ old
  pub kept : after ≡ contents

-- one line is added to the file with this name, and nothing is printed
pub record AddsToFile (path : List ℕ) (printed prints : Option (List ℕ)) (old new : Option (List Made))
    (contents after : List ℕ → Option (List ℕ)) : Type 0 where
  pub line : AddsEntry path old new contents after
  pub silent : prints ≡ printed

-- a line is printed where no file is named, and else added to it
abbrev pub IsDone : Option (List ℕ) → Option (List ℕ) → Option (List ℕ) → Option (List Made) → Option (List Made)
    → (List ℕ → Option (List ℕ)) → (List ℕ → Option (List ℕ)) → Type 0
IsDone None printed prints old new contents after = PrintsLine printed prints old new contents after
IsDone (Some path) printed prints old new contents after = AddsToFile path printed prints old new contents after

-- the same, whether or not a file is named
abbrev pub IsDoneSomewhere : Option (List ℕ) → Option (List ℕ) → Option (List Made) → Option (List Made)
    → (List ℕ → Option (List ℕ)) → (List ℕ → Option (List ℕ)) → Type 0
IsDoneSomewhere printed prints old new contents after =
    (into : Option (List ℕ)) × IsDone into printed prints old new contents after
