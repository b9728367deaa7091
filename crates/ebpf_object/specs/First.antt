-- The first of several things that has a fault, and that none has one.
use Rattle.std.specs.Prelude.{◌≡◌, ◌<◌, ℕ, Option, None, Some}

-- of the numbers below a count none has a fault
abbrev pub NoneHas : {F : Type 0} → (ℕ → Option F) → ℕ → Type 0
NoneHas fault_of count = (k : ℕ) → k < count → fault_of k ≡ None

-- of the numbers below a count this is the first that has a fault, and it has this one
pub record IsFirst {F : Type 0} (fault_of : ℕ → Option F) (count number : ℕ) (fault : F) : Type 0 where
  pub within : number < count
  pub has : fault_of number ≡ Some fault
  pub before : NoneHas fault_of number
