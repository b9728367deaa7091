-- The files that a command makes (profile).
use Rattle.std.specs.Prelude.{ℕ, List, Option, ◌⊎◌}
use Rattle.command_files.specs.Made.{Made, MakesAtMostOne, MakesOneName}
use Rattle.command_link.specs.Made.{MakesProgram}

-- none is made, or one with some name; or a program, and then what is noted beside it
abbrev pub MakesFew : Option (List Made) → Option (List Made) → Type 0
MakesFew before after = MakesAtMostOne before after ⊎ ((path : List ℕ) × MakesProgram path before after)

-- none is made, or some with one name; or a program, and then what is noted beside it
abbrev pub MakesNamed : Option (List Made) → Option (List Made) → Type 0
MakesNamed before after = MakesOneName before after ⊎ ((path : List ℕ) × MakesProgram path before after)
