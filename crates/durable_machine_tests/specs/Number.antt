-- A machine of one number.
use Rattle.std.specs.Prelude.{◌≡◌, ℕ, ◌+◌, ◌*◌, ◌%◌, List, [], ◌∷◌, ◌++◌, slice_index_or}
use Rattle.std.proofs.Common.{sym, ◌∙◌, ap}
use Rattle.durable_machine_tests.specs.declared.number.Number.{Number}

-- the base is the number
abbrev pub IsBaseOf : List ℕ → Number → Type 0
IsBaseOf base number = base ≡ number.value ∷ []

-- an event of one byte takes the number times 31, plus the byte
abbrev pub number_after : Number → List ℕ → Number
number_after number [] = number
number_after number (byte ∷ []) = record { value = (number.value * 31 % 256 + byte) % 256 }
number_after number (byte ∷ more ∷ bytes) = number

-- a number of this value
abbrev number_of : ℕ → Number
number_of n = record { value = n }

-- a file begins with one base
pub one_number : (a b x y : List ℕ) (s t : Number) → IsBaseOf a s → IsBaseOf b t → a ++ x ≡ b ++ y → (a ≡ b) × (s ≡ t)
one_number a b x y s t is_a is_b is = (is_a ∙ ap (λ (n : ℕ). n ∷ []) same ∙ sym is_b, ap number_of same)
  where
    same : s.value ≡ t.value
    same = ap (λ (l : List ℕ). slice_index_or l 0 0) (ap (λ (l : List ℕ). l ++ x) (sym is_a) ∙ is ∙ ap (λ (l : List ℕ). l ++ y) is_b)
