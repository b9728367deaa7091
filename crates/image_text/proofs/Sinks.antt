-- What a sink has of a text that it is handed in parts.
use Rattle.std.proofs.Common.{◌≡◌, ℕ, List, [], ◌++◌, Result, Ok, Err, refl, ap, sym, ◌∙◌, append_assoc}
use Rattle.std.proofs.lemmas.List.{append-nil}
use Rattle.image_text.specs.Streams.{IsBegun, Takes}

pub begins : (before text : List ℕ) → IsBegun before before text text
begins before text = record { part = []; whole = refl; taken = sym (append-nil before) }

-- a part was taken of what was left of the text
both_begun : (before mid after text left rest : List ℕ) → IsBegun before mid text left → IsBegun mid after left rest → IsBegun before after text rest
both_begun before mid after text left rest begun more = record {
  part = begun.part ++ more.part;
  whole = begun.whole ∙ (ap (λ (xs : List ℕ). begun.part ++ xs) more.whole ∙ sym (append_assoc begun.part more.part rest));
  taken = more.taken ∙ (ap (λ (xs : List ℕ). xs ++ more.part) begun.taken ∙ append_assoc before begun.part more.part);
}

-- a further part was taken
pub goes_on : (before mid after text first rest : List ℕ) → IsBegun before mid text (first ++ rest) → after ≡ mid ++ first → IsBegun before after text rest
goes_on before mid after text first rest begun more = both_begun before mid after text (first ++ rest) rest begun (record { part = first; whole = refl; taken = more })

-- of a further part only a beginning was taken
pub stops : (before mid after text first rest : List ℕ) → IsBegun before mid text (first ++ rest) → (left : List ℕ) × IsBegun mid after first left → (left : List ℕ) × IsBegun before after text left
stops before mid after text first rest begun less = (
  less.0 ++ rest,
  both_begun before mid after text (first ++ rest) (less.0 ++ rest) begun (record {
    part = less.1.part;
    whole = ap (λ (xs : List ℕ). xs ++ rest) less.1.whole ∙ append_assoc less.1.part less.0 rest;
    taken = less.1.taken;
  }),
)

-- nothing of the text is left
pub ends : (before after text : List ℕ) → IsBegun before after text [] → after ≡ before ++ text
ends before after text begun = begun.taken ∙ ap (λ (xs : List ℕ). before ++ xs) (sym (begun.whole ∙ append-nil begun.part))

-- the last part of a text
pub takes_last : {E : Type 0} (before mid after text last : List ℕ) (result : Result Unit E) → IsBegun before mid text last → Takes mid after last result → Takes before after text result
takes_last before mid after text last (Ok done) begun more =
    more ∙ (ap (λ (xs : List ℕ). xs ++ last) begun.taken ∙ (append_assoc before begun.part last ∙ ap (λ (xs : List ℕ). before ++ xs) (sym begun.whole)))
takes_last before mid after text last (Err fault) begun less = (less.0, both_begun before mid after text last less.0 begun less.1)
