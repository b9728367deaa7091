-- Lines on what a program was linked for.
use Rattle.std.proofs.Common.{◌≡◌, ◌∙◌, ℕ, List, ◌++◌, Option, Some, None, Result, Ok, Err, IfSome, IsSome, ap, append_assoc}
use Rattle.link_notes.specs.Notes.{ToldNotes}
use Rattle.link_notes.specs.Reading.{fault_told, notes_in}
use Rattle.link_notes.specs.declared.reading.NotesFault.{NotesFault}
use Rattle.link_notes.specs.declared.reading.Wanted.{Wanted}
use Rattle.command_files.specs.Linked.{Tells, told_line}
use Rattle.command_files.specs.declared.notes.GivenNumbers.{GivenNumbers}

-- three texts are added
pub three_added : (old first second third x y z : List ℕ) → first ≡ old ++ x → second ≡ first ++ y → third ≡ second ++ z → third ≡ old ++ ((x ++ y) ++ z)
three_added old first second third x y z one two three =
    three ∙ ap (λ (t : List ℕ). t ++ z) (two ∙ ap (λ (t : List ℕ). t ++ y) one ∙ append_assoc old x y) ∙ append_assoc old (x ++ y) z

same_notes : (read : Result ToldNotes (ℕ × Wanted)) (notes other : ToldNotes) → read ≡ Ok notes → read ≡ Ok other → notes ≡ other
same_notes read notes other is then = cc

-- a line that tells what the notes of a text do, where these were read of it
pub tells_read : (path program bytes text : List ℕ) (given : GivenNumbers) (notes : ToldNotes) (line : List ℕ)
    → notes_in text ≡ Ok notes → line ≡ told_line path program bytes given notes → Tells path program bytes given text line
tells_read path program bytes text given notes line is told = λ other then.
    told ∙ ap (told_line path program bytes given) (same_notes (notes_in text) notes other is then)

no_notes : (read : Result ToldNotes (ℕ × Wanted)) (found : Option (ℕ × Wanted)) (other : ToldNotes) → IfSome found (λ fault. read ≡ Err fault) → IsSome found → read ≡ Ok other → ⊥
no_notes read (Some fault) other is some then = cc
no_notes read None other is some then = absurd (cc)

-- a text that is none tells nothing
pub tells_none : (path program bytes text : List ℕ) (given : GivenNumbers) (fault : NotesFault) (line : List ℕ)
    → IfSome (fault_told fault) (λ told. notes_in text ≡ Err told) → IsSome (fault_told fault) → Tells path program bytes given text line
tells_none path program bytes text given fault line is some = λ other then. absurd (no_notes (notes_in text) (fault_told fault) other is some then)
