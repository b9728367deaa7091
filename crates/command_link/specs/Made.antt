-- The files that `link` makes.
use Rattle.std.specs.Prelude.{ℕ, List, Option, codes, ◌++◌}
use Rattle.command_files.specs.Made.{Made, MakesAtMost, MakesOne}

-- the name of the file beside a program in which it is noted what that was made for
abbrev pub notes_name : List ℕ → List ℕ
notes_name path = path ++ codes ".linked"

-- one file is made, with this name, and then one beside it, or none
pub record MakesProgram (path : List ℕ) (before after : Option (List Made)) : Type 0 where
  pub between : Option (List Made)
  pub program : MakesOne path before between
  pub notes : MakesAtMost (notes_name path) between after
