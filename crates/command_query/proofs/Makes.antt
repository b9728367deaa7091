-- How many files a question makes.
use Rattle.std.proofs.Common.{◌≡◌, ℕ, List, Option, inl, inr}
use Rattle.command_files.specs.Made.{Made, MakesAtMost, MakesAtMostOne}

-- none with this name, or one, is at most one
pub at_most_one : (path : List ℕ) (before after : Option (List Made)) → MakesAtMost path before after → MakesAtMostOne before after
at_most_one path before after (inl same) = inl same
at_most_one path before after (inr one) = inr (path, one)
