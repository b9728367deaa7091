-- Words and their parts.
use Rattle.std.proofs.Common.{◌≡◌, ℕ, eqb, ◌&&◌, List, [], ◌∷◌, ◌++◌, length, take, drop, refl, sym, ap, ◌∙◌}
use Rattle.std.proofs.Math.Bool.{and_assoc}
use Rattle.std.specs.Str.{bytes_eq}

-- a word is two parts where its front is the first and what is left the second
pub bytes_eq-append : (word front back : List ℕ) → bytes_eq word (front ++ back) ≡ bytes_eq (take (length front) word) front && bytes_eq (drop (length front) word) back
bytes_eq-append word [] back = refl
bytes_eq-append [] (f ∷ front) back = refl
bytes_eq-append (w ∷ word) (f ∷ front) back = ap (λ b. eqb w f && b) (bytes_eq-append word front back) ∙ sym (and_assoc (eqb w f) (bytes_eq (take (length front) word) front) (bytes_eq (drop (length front) word) back))
