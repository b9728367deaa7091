-- The files that a command makes.
use Rattle.std.specs.Prelude.{◌≡◌, ◌≢◌, ℕ, List, [], ◌∷◌, ◌++◌, ◌⊎◌, Option, Some, IfSome, if◌then◌else◌}
use Rattle.std.specs.Option.{option_map}
use Rattle.placed_file.specs.Placing.{Attempt}

-- a file with its name
pub record Made : Type 0 where
  pub path : List ℕ
  pub bytes : List ℕ

-- the files that were told as made, in order, of those that were to be given names, of which the last stands first
abbrev pub told_made : List Attempt → List Made
told_made [] = []
told_made (attempt ∷ before) =
    if attempt.done then told_made before ++ record { path = attempt.path; bytes = attempt.bytes } ∷ [] else told_made before

-- bytes are those of a file, where these are told
abbrev pub AreAsTold : Option (List ℕ) → List ℕ → Type 0
AreAsTold told bytes = IfSome told (λ told. bytes ≡ told)

-- what was made before, where that is told, and then this file
abbrev pub then_made : Option (List Made) → List ℕ → List ℕ → Option (List Made)
then_made before path bytes = option_map (λ files. files ++ record { path = path; bytes = bytes } ∷ []) before

-- one file is made, with this name
pub record MakesOne (path : List ℕ) (before after : Option (List Made)) : Type 0 where
  pub bytes : List ℕ
  pub made : after ≡ then_made before path bytes

-- none is made, or one with this name
abbrev pub MakesAtMost : List ℕ → Option (List Made) → Option (List Made) → Type 0
MakesAtMost path before after = (after ≡ before) ⊎ MakesOne path before after

-- none is made, or one with some name
abbrev pub MakesAtMostOne : Option (List Made) → Option (List Made) → Type 0
MakesAtMostOne before after = (after ≡ before) ⊎ ((path : List ℕ) × MakesOne path before after)

-- what was made before, where that is told, and then files of these bytes with this name, of which the last stands first
abbrev pub then_all : Option (List Made) → List ℕ → List (List ℕ) → Option (List Made)
then_all before path [] = before
then_all before path (bytes ∷ earlier) = then_made (then_all before path earlier) path bytes

-- none is made, or some with this name, one behind another
pub record MakesOnly (path : List ℕ) (before after : Option (List Made)) : Type 0 where
  pub texts : List (List ℕ)
  pub made : after ≡ then_all before path texts

-- none is made, or some with one name
abbrev pub MakesOneName : Option (List Made) → Option (List Made) → Type 0
MakesOneName before after = (path : List ℕ) × MakesOnly path before after

-- the bytes of every name but this are what they were
abbrev pub KeepsOthers : List ℕ → (List ℕ → Option (List ℕ)) → (List ℕ → Option (List ℕ)) → Type 0
KeepsOthers path before after = (name : List ℕ) → name ≢ path → after name ≡ before name

-- the bytes of this name, where they are told, are these, and those of every other name are what they were
pub record HasReplaced (path bytes : List ℕ) (before after : List ℕ → Option (List ℕ)) : Type 0 where
  pub same : IfSome (after path) (λ told. told ≡ bytes)
  pub others : KeepsOthers path before after

-- a file that had permission bits has these
abbrev pub KeepsModes : (List ℕ → Option ℕ) → (List ℕ → Option ℕ) → Type 0
KeepsModes before after = (name : List ℕ) → IfSome (before name) (λ mode. after name ≡ Some mode)
