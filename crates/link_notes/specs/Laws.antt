-- Laws of notes (profile).
use Rattle.std.specs.Prelude.{ℕ, ◌≡◌, ◌<◌, ◌^◌, Ok, IfSome}
use Rattle.std.specs.List.{All}
use Rattle.link_notes.specs.Notes.{ToldGuard, ToldNotes}
use Rattle.link_notes.specs.Text.{notes_text}
use Rattle.link_notes.specs.Reading.{notes_in}

-- a number of 32 bits
abbrev pub IsWord : ℕ → Type 0
IsWord number = number < 2 ^ 32

-- printable ASCII, the space included
abbrev pub IsPrintable : ℕ → Type 0
IsPrintable byte = (31 < byte) × (byte < 127)

-- printable ASCII without the space
abbrev pub IsVisible : ℕ → Type 0
IsVisible byte = (32 < byte) × (byte < 127)

-- a guard whose line says it
pub record IsSpelledGuard (guard : ToldGuard) : Type 0 where
  pub number : IsWord guard.number
  pub slot : IsWord guard.slot
  pub place : All IsVisible guard.place
  pub text : All IsPrintable guard.text

-- notes whose text says them
pub record AreSpelled (notes : ToldNotes) : Type 0 where
  pub sum : IfSome notes.sum IsWord
  pub block : IsWord notes.block
  pub emit : IfSome notes.emit IsWord
  pub profile : IsWord notes.profile
  pub guard_at : IfSome notes.guard_at IsWord
  pub guards : All IsSpelledGuard notes.guards

-- notes are read back from what they are printed as
abbrev pub PrintedNotesReadBack : Type 0
PrintedNotesReadBack = (notes : ToldNotes) → AreSpelled notes → notes_in (notes_text notes) ≡ Ok notes
