-- What a stream grows by, where the words of a fault stand in the text.
use Rattle.std.proofs.Common.{◌≡◌, ◌<◌, ◌+◌, ◌∙◌, ℕ, List, [], ◌∷◌, ◌++◌, length, get_or, take, Option, Result, Ok, Err, OnOk, ap, refl, subst, sym}
use Rattle.std.specs.Io.KnownBytes.{Appends}
use Rattle.std.proofs.KnownBytes.{Appends-trans}
use Rattle.std.proofs.lemmas.List.{flat_map_more, take_more}
use Rattle.command_files.specs.Lines.{Text, Said, Around, Elsewhere, Silence, IsPrinted}
use Rattle.command_files.specs.Pieces.{piece_text, pieces_text, text_with}
use Rattle.command_files.specs.declared.pieces.Piece.{Piece}
use Rattle.command_files.specs.declared.pieces.Piece.TheVariants.{Nothing}

-- a text that is made here is printed by its pieces, with some words in the place of those that another crate has
pub printed_with : {T E : Type 0} (result : Result T E) (text : Text) (words told : List ℕ) (old new : Option (List ℕ))
    → told ≡ text_with words text → (text ≡ Silence → ⊥) → OnOk result (Appends old new told) → OnOk result (IsPrinted text old new)
printed_with (Err error) text words told old new is made grows = tt
printed_with (Ok done) (Said text) words told old new is made grows = subst (λ (t : List ℕ). Appends old new t) is grows
printed_with (Ok done) (Around front behind) words told old new is made grows =
    record { words = words; grows = subst (λ (t : List ℕ). Appends old new t) is grows }
printed_with (Ok done) Elsewhere words told old new is made grows = tt
printed_with (Ok done) Silence words told old new is made grows = absurd (made refl)

-- one piece more
pub printed_more : (old between new : Option (List ℕ)) (pieces : List Piece) (index : ℕ) (text : List ℕ) → index < length pieces
    → Appends old between (pieces_text (take index pieces)) → Appends between new text → text ≡ piece_text (get_or pieces index Nothing)
    → Appends old new (pieces_text (take (index + 1) pieces))
printed_more old between new pieces index text within before grows is =
    let piece = get_or pieces index Nothing in
    let one_more : take index pieces ++ piece ∷ [] ≡ take (index + 1) pieces = sym (take_more pieces index Nothing within) in
    subst (λ (t : List ℕ). Appends old new t) (flat_map_more piece_text [] (take index pieces) piece ∙ ap pieces_text one_more)
    (Appends-trans old between new (pieces_text (take index pieces)) (piece_text piece) before
    (subst (λ (t : List ℕ). Appends between new t) is grows))
