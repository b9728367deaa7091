-- The line that says for what a program was linked (profile).
use Rattle.std.specs.Prelude.{◌≡◌, ℕ, Bool, false, not, ◌&&◌, ◌==◌, List, [], ◌∷◌, ◌++◌, ◌⊎◌, codes, Option, Some, None, Ok, unwrap_or, if◌then◌else◌}
use Rattle.std.specs.Fmt.{decimal}
use Rattle.link_notes.specs.Notes.{ToldNotes}
use Rattle.link_notes.specs.Reading.{notes_in}
use Rattle.link_notes.specs.Sum.{sum_of}
use Rattle.command_files.specs.declared.notes.GivenNumbers.{GivenNumbers}

-- the name of the file with the notes of the program in a file with this name
abbrev pub notes_name : List ℕ → List ℕ
notes_name program = program ++ codes ".linked"

-- notes that have a sum are of the program with this sum, and others of any
abbrev pub is_of : List ℕ → ToldNotes → Bool
is_of program notes = unwrap_or notes.sum (sum_of program) == sum_of program

-- they are known to be another program's, where the bytes of the program are known
abbrev pub is_others : ToldNotes → Option (List ℕ) → Bool
is_others notes None = false
is_others notes (Some program) = not (is_of program notes)

-- a program was linked for the numbers that are given
abbrev pub fits : GivenNumbers → ToldNotes → Bool
fits given notes =
    (unwrap_or given.block notes.block == notes.block && unwrap_or notes.emit given.emit == given.emit)
    && unwrap_or given.profile notes.profile == notes.profile

abbrev pub emit_words : Option ℕ → List ℕ
emit_words None = []
emit_words (Some emit) = codes ", --emit " ++ decimal emit

-- for which numbers the program in a file was linked; names stand in these lines as a terminal shows them
abbrev pub numbers_line : List ℕ → ToldNotes → List ℕ
numbers_line program notes =
    ((program ++ codes " was linked for --block " ++ decimal notes.block) ++ emit_words notes.emit)
    ++ (codes " and --profile " ++ decimal notes.profile ++ 10 ∷ [])

-- the notes in a file are another program's
abbrev pub others_line : List ℕ → List ℕ
others_line path = path ++ codes " has the notes of another program\n"

-- that the notes in a file aren't those of the program in a file, of these bytes, or that it was linked for other numbers, if so
abbrev pub told_line : List ℕ → List ℕ → List ℕ → GivenNumbers → ToldNotes → List ℕ
told_line path program bytes given notes =
    if is_of bytes notes then (if fits given notes then [] else numbers_line program notes) else others_line path

-- a line tells what the notes in a file of this text do, where they are whole
abbrev pub Tells : List ℕ → List ℕ → List ℕ → GivenNumbers → List ℕ → List ℕ → Type 0
Tells path program bytes given text line = (notes : ToldNotes) → notes_in text ≡ Ok notes → line ≡ told_line path program bytes given notes

-- it does, or is none, as where they can't be read
abbrev pub TellsOrIsNone : List ℕ → List ℕ → List ℕ → GivenNumbers → List ℕ → List ℕ → Type 0
TellsOrIsNone path program bytes given text line = (line ≡ []) ⊎ Tells path program bytes given text line
