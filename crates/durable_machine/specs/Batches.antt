-- The bytes of several vectors.
use Rattle.std.specs.Prelude.{ℕ, List, map, Vec}
use Rattle.std.specs.declared.alloc.Global.{Global}

-- the bytes of each event
abbrev pub bytes_of : List (Vec ℕ Global) → List (List ℕ)
bytes_of = map (λ event. event.items)
