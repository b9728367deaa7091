-- Layouts in words: a name and a field on each line.
use Rattle.std.specs.Prelude.{ℕ, ◌+◌, ◌==◌, Bool, not, ◌&&◌, ◌||◌, if◌then◌else◌, List, [], ◌∷◌, ◌++◌, length, drop, slice_index, Option, Some, None, Result, Ok, Err, codes}
use Rattle.std.specs.List.{list_all, before_first, position_or_len}
use Rattle.std.specs.Option.{is_some}
use Rattle.std.specs.Char.{is_ascii_alphabetic, is_ascii_alphanumeric}
use Rattle.std.specs.Str.{bytes_eq}
use Rattle.std.specs.Str.Lines.{lines}
use Rattle.record_questions.specs.declared.question.Field.{Field}
use Rattle.common_definitions.specs.Readings.{◌>>=◌}
use Rattle.text_lines.specs.Cut.{cut_at, is_blank_byte, trimmed, uncommented}
use Rattle.question_words.specs.declared.fault.FaultKind.{FaultKind}
use Rattle.question_words.specs.declared.fault.FaultKind.TheVariants as kinds
use Rattle.question_words.specs.declared.layout_text.LineKind.{LineKind}
use Rattle.question_words.specs.declared.layout_text.LineKind.TheVariants.{Name, Twice}
use Rattle.question_words.specs.declared.layout_text.LineKind.TheVariants as line_kinds
use Rattle.question_words.specs.declared.layout_text.LayoutFault.{LayoutFault}
use Rattle.question_words.specs.declared.layout_text.LayoutFault.TheVariants.{Memory, Line}
use Rattle.question_words.specs.Field.{typed_of}
use Rattle.question_words.specs.Layout.{field_named}

-- the fault of a layout: the number of a line, and what is wrong with it
abbrev pub layout_fault_of : LayoutFault → Option (ℕ × LineKind)
layout_fault_of Memory = None
layout_fault_of (Line number kind) = Some (number, kind)

-- can a name have this byte: a letter, a digit, or `_`?
abbrev pub is_name_byte : ℕ → Bool
is_name_byte byte = is_ascii_alphanumeric byte || byte == 95

-- can a name begin with this byte: a letter, or `_`?
abbrev pub begins_name : ℕ → Bool
begins_name byte = is_ascii_alphabetic byte || byte == 95

-- is it a word that questions have of their own?
abbrev pub is_taken_word : List ℕ → Bool
is_taken_word word = bytes_eq word (codes "arg") || (bytes_eq word (codes "bytes") || bytes_eq word (codes "in"))

-- can a field have this name?
abbrev pub is_field_name : List ℕ → Bool
is_field_name word = begins_name (slice_index word 0) && list_all is_name_byte word && not (is_taken_word word)

-- the field of a type and an offset, or what is wrong with them
abbrev pub as_line : {X : Type 0} → Result X FaultKind → Result X LineKind
as_line (Ok value) = Ok value
as_line (Err kind) = Err (line_kinds.Field kind)

abbrev pub field_parts : Option (List ℕ × List ℕ) → Result Field LineKind
field_parts None = Err (line_kinds.Field kinds.Type)
field_parts (Some parts) = as_line (typed_of parts.0 parts.1)

-- the field that is after a name
abbrev pub field_after : List ℕ → Result Field LineKind
field_after text = field_parts (cut_at 64 text)

-- the name and the field of a line: its first word, and what is after that
abbrev pub entry_of_line : List ℕ → Result (List ℕ × Field) LineKind
entry_of_line text =
    if is_field_name (before_first is_blank_byte text)
    then (field_after (trimmed (drop (position_or_len is_blank_byte text) text)) >>= λ field. Ok (before_first is_blank_byte text, field))
    else Err Name

-- a layout with a name more, where it hasn't that name
abbrev pub with_entry : List (List ℕ × Field) → List ℕ × Field → Result (List (List ℕ × Field)) LineKind
with_entry layout entry = if is_some (field_named layout entry.0) then Err Twice else Ok (layout ++ entry ∷ [])

-- what is wrong, at a line
abbrev pub at_line : {X : Type 0} → ℕ → Result X LineKind → Result X (ℕ × LineKind)
at_line number (Ok value) = Ok value
at_line number (Err kind) = Err (number, kind)

-- a layout with what a line has, without its comment and the blanks around
abbrev pub with_line : List (List ℕ × Field) → ℕ → List ℕ → Result (List (List ℕ × Field)) (ℕ × LineKind)
with_line layout number line =
    if length (trimmed (uncommented line)) == 0 then Ok layout
    else at_line number (entry_of_line (trimmed (uncommented line)) >>= with_entry layout)

-- a layout with what these lines have, of which so many are before
abbrev pub with_lines : List (List ℕ × Field) → ℕ → List (List ℕ) → Result (List (List ℕ × Field)) (ℕ × LineKind)
with_lines layout before [] = Ok layout
with_lines layout before (line ∷ rest) = with_line layout (before + 1) line >>= λ after. with_lines after (before + 1) rest

-- the layout that a text is, or its first fault
unfoldable pub layout_of : List ℕ → Result (List (List ℕ × Field)) (ℕ × LineKind)
layout_of text = with_lines [] 0 (lines text)
