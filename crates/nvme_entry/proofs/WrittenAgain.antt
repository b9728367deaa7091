-- What is read and, written again, has other bytes is spelled by none.
use Rattle.std.proofs.Common.{◌≡◌, ℕ, List, sym, ap, ◌∙◌, false, nat_eq, Option, Some, None}
use Rattle.std.proofs.lemmas.Bool.{both_ways}
use Rattle.std.proofs.lemmas.Option.{same_Some}
use lib.Pointwise.{pointwise, bytes_decides}

-- Where each value whose fields have the numbers of their types is told by the bytes that spell it: where the value that bytes
-- tell has other bytes, no such value has these.
module _ {X : Type 0} (AreFields : X → Type 0) (told : List ℕ → Option X) (spelled : X → List ℕ) (reads_back : (x : X) → AreFields x → told (spelled x) ≡ Some x) where
  pub no_other_is_read : (bytes again : List ℕ) (read : X) → Some read ≡ told bytes → again ≡ spelled read → pointwise nat_eq again bytes ≡ false
      → (x : X) → AreFields x → bytes ≡ spelled x → None ≡ Some x
  no_other_is_read bytes again read found written differ x fields is =
      let one : read ≡ x = same_Some read x (found ∙ ap told is ∙ reads_back x fields) in
      let equal : again ≡ bytes = written ∙ ap spelled one ∙ sym is in
      absurd (both_ways (pointwise nat_eq again bytes) differ ((bytes_decides again bytes).1 equal))
