-- The text of notes (profile).
use Rattle.std.specs.Prelude.{ℕ, List, [], ◌∷◌, ◌++◌, map, Option, Some, None, codes}
use Rattle.std.specs.Fmt.{decimal}
use Rattle.link_notes.specs.Notes.{ToldGuard, ToldNotes}

-- lines, each with its end
abbrev pub unlines : List (List ℕ) → List ℕ
unlines [] = []
unlines (line ∷ lines) = line ++ 10 ∷ unlines lines

-- a key and a number
abbrev pub number_line : List ℕ → ℕ → List ℕ
number_line key number = key ++ decimal number

-- the line of a number that may be missing
abbrev pub optional_lines : List ℕ → Option ℕ → List (List ℕ)
optional_lines key None = []
optional_lines key (Some number) = number_line key number ∷ []

abbrev pub guard_line : ToldGuard → List ℕ
guard_line guard =
    codes "guard " ++ (decimal guard.number ++ 32 ∷ (codes "slot " ++ (decimal guard.slot ++ 32 ∷ (guard.place ++ 32 ∷ guard.text))))

-- the lines of notes, in order
abbrev pub notes_lines : ToldNotes → List (List ℕ)
notes_lines notes =
    codes "linked 1" ∷ (optional_lines (codes "sum ") notes.sum
    ++ number_line (codes "block ") notes.block ∷ (optional_lines (codes "emit ") notes.emit
    ++ number_line (codes "profile ") notes.profile ∷ (optional_lines (codes "guard-at ") notes.guard_at ++ map guard_line notes.guards)))

abbrev pub notes_text : ToldNotes → List ℕ
notes_text notes = unlines (notes_lines notes)
