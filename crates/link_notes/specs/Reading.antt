-- Notes as they are read from a text, or its lowest line that is wrong (profile).
use Rattle.std.specs.Prelude.{ℕ, ◌+◌, Bool, false, List, [], ◌∷◌, Option, Some, None, option_and_then, option_map, Result, Ok, Err, ok_or, codes, if◌then◌else◌}
use Rattle.std.specs.List.{list_all}
use Rattle.std.specs.Char.{is_ascii}
use Rattle.std.specs.Str.{bytes_eq}
use Rattle.std.specs.Str.Lines.{lines}
use Rattle.common_definitions.specs.Readings.{◌>>=◌, with_front}
use Rattle.text_lines.specs.Cut.{cut_at}
use Rattle.text_lines.specs.Number.{decimal_of}
use Rattle.link_notes.specs.Notes.{ToldGuard, ToldNotes}
use Rattle.link_notes.specs.Unread.{after, first_number, first_of, past, past_number}
use Rattle.link_notes.specs.declared.reading.NotesFault.{NotesFault}
use Rattle.link_notes.specs.declared.reading.NotesFault.TheVariants as fault
use Rattle.link_notes.specs.declared.reading.Wanted.{Wanted}
use Rattle.link_notes.specs.declared.reading.Wanted.TheVariants as wanted

-- the number between a key and a space, and what stands after that
abbrev pub number_before : List ℕ → List ℕ → Option (ℕ × List ℕ)
number_before key text = option_and_then
    (λ behind. option_and_then (λ parts. option_map (λ number. (number, parts.1)) (decimal_of parts.0)) (cut_at 32 behind))
    (after key text)

-- a text of ASCII
abbrev pub ascii_of : List ℕ → Option (List ℕ)
ascii_of text = if list_all is_ascii text then Some text else None

-- a guard, where its place and its text are read
abbrev pub guard_told : ℕ → ℕ → Option (List ℕ) → Option (List ℕ) → Option ToldGuard
guard_told number slot (Some place) (Some text) = Some (record { number = number; slot = slot; place = place; text = text })
guard_told number slot _ _ = None

-- the guard of a line: its number, its slot, its place, and what doesn't hold where it ends a run
abbrev pub guard_of : List ℕ → Option ToldGuard
guard_of line = option_and_then
    (λ first. option_and_then
    (λ second. option_and_then (λ parts. guard_told first.0 second.0 (ascii_of parts.0) (ascii_of parts.1)) (cut_at 32 second.1))
    (number_before (codes "slot ") first.1))
    (number_before (codes "guard ") line)

-- a line that is wrong: its number, and what is wanted there; none where memory ran out
abbrev pub fault_told : NotesFault → Option (ℕ × Wanted)
fault_told (fault.Line number wanted) = Some (number, wanted)
fault_told fault.Memory = None

-- the guard of a line of this number, before those of the lines after it
abbrev pub guard_before : ℕ → Option ToldGuard → Result (List ToldGuard) (ℕ × Wanted) → Result (List ToldGuard) (ℕ × Wanted)
guard_before number None later = Err (number, wanted.Guard)
guard_before number (Some guard) later = with_front (guard ∷ []) later

-- the guards of lines that are counted from a number on
abbrev pub guards_from : ℕ → List (List ℕ) → Result (List ToldGuard) (ℕ × Wanted)
guards_from number [] = Ok []
guards_from number (line ∷ rest) = guard_before number (guard_of line) (guards_from (number + 1) rest)

-- the guards of all lines that are left
abbrev pub guards_left : ℕ × List (List ℕ) → Result (List ToldGuard) (ℕ × Wanted)
guards_left left = guards_from left.0 left.1

abbrev pub is_heading : Option (List ℕ) → Bool
is_heading None = false
is_heading (Some line) = bytes_eq line (codes "linked 1")

-- the first line is the heading
abbrev pub heading_of : ℕ × List (List ℕ) → Result (ℕ × List (List ℕ)) (ℕ × Wanted)
heading_of left = if is_heading (first_of left.1) then Ok (past left) else Err (left.0, wanted.Heading)

-- the number after a key in the first line
abbrev pub needed : List ℕ → Wanted → ℕ × List (List ℕ) → Result ℕ (ℕ × Wanted)
needed key wanted left = ok_or (first_number key left) (left.0, wanted)

-- the guards of the lines that are left, and what is read before them
abbrev pub with_guards : Option ℕ → ℕ → Option ℕ → ℕ → Option ℕ → ℕ × List (List ℕ) → Result ToldNotes (ℕ × Wanted)
with_guards sum block emit profile guard_at left = guards_from left.0 left.1
    >>= λ guards. Ok (record { sum = sum; block = block; emit = emit; profile = profile; guard_at = guard_at; guards = guards })

-- the profile, where in scratch guards write, and the guards
abbrev pub with_profile : Option ℕ → ℕ → Option ℕ → ℕ × List (List ℕ) → Result ToldNotes (ℕ × Wanted)
with_profile sum block emit left = needed (codes "profile ") wanted.Profile left >>= λ profile.
    let rest = past left in
    with_guards sum block emit profile (first_number (codes "guard-at ") rest) (past_number (codes "guard-at ") rest)

-- the bytes of a block, the limit, and so on
abbrev pub with_block : Option ℕ → ℕ × List (List ℕ) → Result ToldNotes (ℕ × Wanted)
with_block sum left = needed (codes "block ") wanted.Block left >>= λ block.
    let rest = past left in
    with_profile sum block (first_number (codes "emit ") rest) (past_number (codes "emit ") rest)

-- the sum of the program's bytes, the bytes of a block, and so on
abbrev pub with_sum : ℕ × List (List ℕ) → Result ToldNotes (ℕ × Wanted)
with_sum left = with_block (first_number (codes "sum ") left) (past_number (codes "sum ") left)

-- the notes of a text
abbrev pub notes_in : List ℕ → Result ToldNotes (ℕ × Wanted)
notes_in text = heading_of (1, lines text) >>= with_sum
