-- What is left of bytes that were to be written again.
use Rattle.std.proofs.Common.{◌≡◌, ◌≤◌, ◌+◌, ℕ, true, List, ◌∷◌, length, Result, Ok, Err, OnOk, OnErr, subst, sym}
use Rattle.stored_file.specs.File.{Follows, MayLeave, Mixed}
use Rattle.stored_file.specs.declared.stored_file.FileError.{FileError}
use Rattle.stored_file.specs.Calls.{Call, Refused, Renewed, told_of}
use Rattle.stored_file.proofs.Opened.{refused_mixed, renewed_mixed}
use Rattle.durable_device.specs.Kept.{MayBeLeft}

-- each file that a crash may leave is as long
abbrev pub IsLong : List Call → ℕ → List ℕ → Type 0
IsLong calls at bytes = (c : List ℕ) → MayLeave (told_of MayBeLeft calls) c → at + length bytes ≤ length c

pub handed_mixed : {T : Type 0} (r : Result T FileError) (calls noted : List Call) (at : ℕ) (bytes : List ℕ)
    → IsLong calls at bytes
    → OnOk r (noted ≡ Renewed at bytes true ∷ calls) → OnErr r (noted ≡ Refused ∷ calls)
    → Follows (Mixed at bytes) (told_of MayBeLeft calls) (told_of MayBeLeft noted)
handed_mixed (Ok done) calls noted at bytes long handed refused =
    subst (λ (notes : List Call). Follows (Mixed at bytes) (told_of MayBeLeft calls) (told_of MayBeLeft notes)) (sym handed) (renewed_mixed MayBeLeft calls at bytes true)
handed_mixed (Err error) calls noted at bytes long handed refused =
    subst (λ (notes : List Call). Follows (Mixed at bytes) (told_of MayBeLeft calls) (told_of MayBeLeft notes)) (sym refused) (refused_mixed MayBeLeft calls at bytes long)
