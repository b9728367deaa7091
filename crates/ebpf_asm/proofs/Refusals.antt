-- What is told of a text that can't be assembled.
use Rattle.std.proofs.Common.{◌≡◌, ℕ, List, Option, Some, None, refl}
use Rattle.std.specs.Borrow.{Bor}
use Rattle.std.specs.Option.{option_copied, unwrap_or}

-- the bytes of a slice, or of what stands in for it
pub bytes_or : (found : Option (Bor (List ℕ))) (other : Bor (List ℕ)) → (unwrap_or found other).now ≡ unwrap_or (option_copied found) other.now
bytes_or None other = refl
bytes_or (Some bytes) other = refl
