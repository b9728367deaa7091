-- Is what comes from a source a text? What a call that compares them gives.
use Rattle.std.specs.Prelude.{ℕ, ◌≡◌, ◌≢◌, ◌+◌, List, ◌++◌, take, Result, Ok, Err}
use Rattle.image_text.specs.declared.same_text.Difference.{Difference}
use Rattle.image_text.specs.declared.same_text.Difference.TheVariants.{Other, Stream}

-- what was to come is this text with what is still to come behind it; or, where other bytes are told, nothing that begins
-- with the text
abbrev pub Compares : List ℕ → List ℕ → List ℕ → Result (Unit {0}) Difference → Type 0
Compares before after text (Ok same) = before ≡ text ++ after
Compares before after text (Err Other) = (tail : List ℕ) → before ≢ text ++ tail
Compares before after text (Err Stream) = Unit {0}

-- a call that compares counts one failure of its source where the stream failed, and else none
abbrev pub CountsDifference : {X : Type 0} → ℕ → ℕ → Result X Difference → Type 0
CountsDifference before after (Ok x) = after ≡ before
CountsDifference before after (Err Other) = after ≡ before
CountsDifference before after (Err Stream) = after ≡ before + 1

-- a first part of this text has come, of so many bytes
abbrev pub ComparesPiece : List ℕ → List ℕ → List ℕ → Result ℕ Difference → Type 0
ComparesPiece before after text (Ok count) = before ≡ take count text ++ after
ComparesPiece before after text (Err Other) = (tail : List ℕ) → before ≢ text ++ tail
ComparesPiece before after text (Err Stream) = Unit {0}

-- what was to come is this text, or where other bytes are told, it isn't
abbrev pub ComparesAll : List ℕ → List ℕ → Result (Unit {0}) Difference → Type 0
ComparesAll before text (Ok same) = before ≡ text
ComparesAll before text (Err Other) = before ≢ text
ComparesAll before text (Err Stream) = Unit {0}

-- of a text this rest has still to come, and what came before it was the text's first part
pub record IsSameSoFar (before after text rest : List ℕ) : Type 0 where
  pub part : List ℕ
  pub whole : text ≡ part ++ rest
  pub came : before ≡ part ++ after
