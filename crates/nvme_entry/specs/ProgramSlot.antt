-- The slots for programs (profile).
use Rattle.std.specs.Prelude.{ℕ, Option}
use Rattle.common_definitions.specs.Below.{below}
use Rattle.nvme_entry.specs.declared.program_slot.TheConstants.{PROGRAM_SLOTS}

-- the slot of this number, if there is one
abbrev pub program_slot_of : ℕ → Option ℕ
program_slot_of number = below PROGRAM_SLOTS number
