-- What holds at all times.
use Rattle.std.specs.Prelude.{ℕ, ◌≡◌, ◌<◌, List, length}

pub record HasRoom (next : ℕ) (output : List ℕ) : Type 0 where
  pub within : next < 8
  pub size : length output ≡ 131072
