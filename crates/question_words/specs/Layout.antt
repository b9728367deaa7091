-- Layouts as the definitions see them.
use Rattle.std.specs.Prelude.{ℕ, if◌then◌else◌, List, [], ◌∷◌, map, Option, Some, None}
use Rattle.std.specs.Str.{bytes_eq}
use Rattle.record_questions.specs.declared.question.Field.{Field}
use Rattle.question_words.specs.declared.layout.Layout.{Layout}
use Rattle.question_words.specs.declared.layout.NamedField.{NamedField}

-- a name and its field
abbrev pub entry_of : NamedField → List ℕ × Field
entry_of named = (named.name.items, named.field)

-- a layout's names and their fields
abbrev pub entries : Layout → List (List ℕ × Field)
entries layout = map entry_of layout.fields.items

-- the field that has a name first
abbrev pub field_named : List (List ℕ × Field) → List ℕ → Option Field
field_named [] name = None
field_named (entry ∷ rest) name = if bytes_eq entry.0 name then Some entry.1 else field_named rest name
