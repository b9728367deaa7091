-- Numbers and the digits that write them, as far as they are read.
use Rattle.std.proofs.Common.{◌≡◌, ℕ, ◌+◌, ◌*◌, ◌^◌, ◌<◌, true, ltb, List, length, get_or, take, Option, Some, None, Ok, refl, sym, ap, ◌∙◌}
use Rattle.std.specs.Option.{SomeIff, ok_or}
use Rattle.std.specs.List.{list_all}
use Rattle.std.specs.Char.{is_digit, digit_value}
use Rattle.std.specs.Str.Parse.{digits_value}
use Rattle.std.proofs.lemmas.Bool.{lt-ltb}
use Rattle.std.proofs.lemmas.List.Folds.{list_all_more}
use Rattle.std.proofs.lemmas.Int.Digits.{digits_value_more}
use Rattle.common_definitions.specs.Below.{below}

-- what an option that might have been missing had
pub found : {E : Type 0} (o : Option ℕ) (P : Type 0) (v d : ℕ) (e : E) → SomeIff o P v → Ok d ≡ ok_or o e → P × (d ≡ v)
found (Some x) P v d e h q = let same : d ≡ x = cc in (h.0, same ∙ h.1)
found None P v d e h q = absurd cc

-- digits so far, and the number that they write where 64 bits hold it
abbrev pub HasDigits : ℕ → List ℕ → Option ℕ → Type 0
HasDigits radix ds value = (list_all (λ byte. is_digit byte radix) ds ≡ true) × (value ≡ below (2 ^ 64) (digits_value radix ds))

pub HasDigits-more : (radix : ℕ) (bs : List ℕ) (i x d : ℕ) (before after : Option ℕ) → i < length bs → x ≡ get_or bs i 0 → (digit_value x < radix) × (d ≡ digit_value x)
    → HasDigits radix (take i bs) before → ((n : ℕ) → before ≡ below (2 ^ 64) n → after ≡ below (2 ^ 64) (n * radix + d)) → HasDigits radix (take (i + 1) bs) after
HasDigits-more radix bs i x d before after lt same digit so_far more =
    let is : ltb (digit_value (get_or bs i 0)) radix ≡ true = rw (← same) (lt-ltb _ _ digit.0) in (
      list_all_more (λ byte. is_digit byte radix) bs i 0 lt ∙ rw (so_far.0, is) refl,
      more (digits_value radix (take i bs)) so_far.1 ∙ ap (below (2 ^ 64)) (rw (digit.1, same) (sym (digits_value_more radix bs i lt))),
    )
