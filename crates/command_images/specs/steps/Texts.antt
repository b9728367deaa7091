-- What is known of the text of a file.
use Rattle.std.specs.Prelude.{◌≡◌, ◌↔◌, ℕ, Bool, List, Option, IfSome, IsTrue}

-- an answer says whether the bytes of a file, where they are told, are this text
abbrev pub TellsWhether : List ℕ → Option (List ℕ) → Bool → Type 0
TellsWhether text bytes same = IfSome bytes (λ bytes. IsTrue same ↔ (bytes ≡ text))
