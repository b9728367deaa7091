-- The numbers of status code types.
use Rattle.std.specs.Prelude.{ℕ, ◌==◌, Option, List, [], ◌∷◌, find}
use Rattle.zone_state.specs.declared.status.StatusType.{StatusType}
use Rattle.zone_state.specs.declared.status.StatusType.TheVariants.{Generic, CommandSpecific, VendorSpecific}

-- the number of a type in the status field (NVMe Base 2.0, 3.3.3.2)
abbrev pub type_number : StatusType → ℕ
type_number Generic = 0
type_number CommandSpecific = 1
type_number VendorSpecific = 7

-- all status code types
abbrev pub types : List StatusType
types = Generic ∷ CommandSpecific ∷ VendorSpecific ∷ []

-- the type that has the number, if one has
abbrev pub type_of : ℕ → Option StatusType
type_of number = find (λ kind. type_number kind == number) types
