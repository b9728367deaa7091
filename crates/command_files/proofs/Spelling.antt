-- Words, and the numbers that they spell.
use Rattle.std.proofs.Common.{◌≡◌, ℕ, ◌≤◌, ◌==◌, ltb, true, List, [], ◌∷◌, drop, get_or, None, refl, sym, ap, ◌∙◌, arith}
use Rattle.std.specs.Prelude.{codes}
use Rattle.std.specs.List.{starts_with}
use Rattle.std.specs.Str.Pattern.{FindsTextPrefix, StripsPrefix}
use Rattle.std.proofs.lemmas.Bool.{false_from_ne_true, ltb-true}
use Rattle.std.proofs.lemmas.Bool.Decides.{Decides-eqb}
use Rattle.std.proofs.lemmas.Slice.Eq.{starts_is}
use Rattle.text_lines.specs.Number.{number_below}
use Rattle.command_files.specs.Number.{decimal_or_hexadecimal, numeral_of}

-- `+` is no digit
pub plus_spells_none : (bound radix : ℕ) (ds : List ℕ) → radix ≤ 36 → get_or ds 0 0 ≡ 43 → None ≡ number_below bound radix ds
unfolding number_below
plus_spells_none bound radix [] most plus = absurd (omega arith)
plus_spells_none bound radix (d ∷ ds) most plus = rw (plus, false_from_ne_true (ltb 36 radix) (λ less. omega (arith, ltb-true 36 radix less))) refl

-- a word behind `0x`, and any other
pub behind_prefix : (word digits : List ℕ) → StripsPrefix (FindsTextPrefix (codes "0x")) word digits → decimal_or_hexadecimal word ≡ numeral_of 16 digits
unfolding decimal_or_hexadecimal
behind_prefix word digits (n, found, same, whole) =
    let starts : starts_with (λ a b. a == b) word (codes "0x") ≡ true = (starts_is Decides-eqb word (codes "0x") _ refl).1 (drop n word) found.1 in
    rw starts (ap (numeral_of 16) (sym (same ∙ ap (λ (k : ℕ). drop k word) found.0)))

pub without_prefix : (word : List ℕ) → FindsTextPrefix (codes "0x") word None → decimal_or_hexadecimal word ≡ numeral_of 10 word
unfolding decimal_or_hexadecimal
without_prefix word lacks = rw (false_from_ne_true _ (λ starts. lacks (drop 2 word) ((starts_is Decides-eqb word (codes "0x") _ refl).0 starts))) refl
