-- The beginning of a text that is kept to be shown (profile).
use Rattle.std.specs.Prelude.{ℕ, ◌≡◌, ◌<◌, ◌-◌, ◌↔◌, min, IsTrue, List, ◌++◌, length, take, replicate}
use Rattle.text_lines.specs.declared.excerpt.Excerpt.{Excerpt}

-- an excerpt has a text's first bytes, at most 40, and zeros behind them, and says how many it has and whether the text goes on
pub record IsExcerptOf (text : List ℕ) (excerpt : Excerpt) : Type 0 where
  pub bytes : excerpt.bytes ≡ take 40 text ++ replicate (40 - length text) 0
  pub kept : excerpt.kept ≡ min 40 (length text)
  pub rest : IsTrue excerpt.goes_on ↔ (40 < length text)
