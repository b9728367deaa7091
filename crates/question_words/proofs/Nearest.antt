-- What is open: the last element is the nearest.
use Rattle.std.proofs.Common.{◌≡◌, ℕ, ◌+◌, List, [], ◌∷◌, ◌++◌, length, map, Option, Some, None, refl, ap, ◌∙◌, arith}
use Rattle.std.specs.Option.{MatchOption, option_to_list}
use Rattle.std.specs.Prelude.{reverse}
use Rattle.std.proofs.lemmas.List.{map-append, reverse-append}
use Rattle.question_words.specs.declared.stack.Open.{Open}
use Rattle.question_words.specs.steps.Views.{open_view, opens}

pub opens_more : (items : List Open) (part : Open) → opens (items ++ part ∷ []) ≡ open_view part ∷ opens items
unfolding opens
opens_more items part = ap reverse (map-append open_view items (part ∷ [])) ∙ reverse-append (map open_view items) (open_view part ∷ [])

pub opens_none : opens [] ≡ []
unfolding opens
opens_none = refl

none_left : (items : List Open) → length items ≡ 0 → opens items ≡ []
none_left [] h = opens_none
none_left (x ∷ items) h = absurd (omega (arith, h))

-- what is taken was nearest
pub taken : (old new : List Open) (before after : ℕ) (part : Option Open) → before ≡ length old → after ≡ length new → old ≡ new ++ option_to_list part
    → MatchOption part ((before ≡ 0) × (after ≡ 0)) (λ p. after + 1 ≡ before)
    → MatchOption part ((opens old ≡ []) × (opens new ≡ [])) (λ p. (opens old ≡ open_view p ∷ opens new) × (length old ≡ length new + 1))
taken old new before after (Some p) b a h e = (ap opens h ∙ opens_more new p, omega (arith, b, a, e))
taken old new before after None b a h e = (none_left old (omega (arith, b, e.0)), none_left new (omega (arith, a, e.1)))
