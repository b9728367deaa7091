-- Texts in pieces.
use Rattle.std.specs.Prelude.{ℕ, List, [], ◌++◌}
use Rattle.std.specs.Fmt.{decimal}
use Rattle.std.specs.List.{flat_map}
use Rattle.command_files.specs.Lines.{Text, Said, Around, Elsewhere, Silence}
use Rattle.command_files.specs.Shown.{shown}
use Rattle.command_files.specs.declared.pieces.Piece.{Piece}
use Rattle.command_files.specs.declared.pieces.Piece.TheVariants.{Plain, Named, Number, Nothing}

-- what a piece is written as
abbrev pub piece_text : Piece → List ℕ
piece_text (Plain text) = text.now
piece_text (Named text) = shown text.now
piece_text (Number text number) = text.now ++ decimal number
piece_text Nothing = []

-- what pieces are written as, one behind another
abbrev pub pieces_text : List Piece → List ℕ
pieces_text pieces = flat_map piece_text pieces

-- a text with these words in the place of those that another crate has; nothing where none is said here
abbrev pub text_with : List ℕ → Text → List ℕ
text_with words (Said text) = text
text_with words (Around front behind) = front ++ words ++ behind
text_with words Elsewhere = []
text_with words Silence = []
