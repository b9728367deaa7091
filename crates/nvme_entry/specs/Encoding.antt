-- What an entry made of a command has.
use Rattle.std.specs.Prelude.{ℕ, ◌^◌, ◌<◌, List, [], ◌∷◌}
use Rattle.std.specs.List.{AllByRecursion}
use Rattle.common_definitions.specs.Bytes.{field}
use Rattle.nvme_entry.specs.declared.command.Command.{Command}
use Rattle.nvme_entry.specs.declared.command.Command.TheVariants as command
use Rattle.nvme_entry.specs.declared.command.StandardCommand.TheVariants.{Write, Read, Send, Receive, Append}

-- the number of bytes of the program that a command brings
abbrev pub program_length : Command → ℕ
program_length (command.Load load) = load.bytes
program_length _ = 0

-- the bits of Command Dwords 10 to 15 that no field of a command has: the first of their bytes, how many bytes they stand in, and how
-- many bits of these, the lowest, are in use
abbrev pub unused_dwords : Command → List (ℕ × ℕ × ℕ)
unused_dwords (command.Standard (Write lba blocks)) = (48, 4, 16) ∷ (52, 4, 0) ∷ (56, 8, 0) ∷ []
unused_dwords (command.Standard (Read lba blocks)) = (48, 4, 16) ∷ (52, 4, 0) ∷ (56, 8, 0) ∷ []
unused_dwords (command.Standard (Append lba blocks)) = (48, 4, 16) ∷ (52, 4, 0) ∷ (56, 8, 0) ∷ []
unused_dwords (command.Standard (Send lba action select_all)) = (48, 4, 0) ∷ (52, 4, 9) ∷ (56, 8, 0) ∷ []
unused_dwords (command.Standard (Receive lba dwords filter partial)) = (52, 4, 17) ∷ (56, 8, 0) ∷ []
unused_dwords (command.Run run) = (48, 4, 24) ∷ []
unused_dwords (command.Load load) = (52, 4, 0) ∷ (56, 8, 0) ∷ []
unused_dwords (command.Result slot) = (44, 4, 0) ∷ (48, 4, 0) ∷ (52, 4, 0) ∷ (56, 8, 0) ∷ []

-- the same of a whole entry: FUSE and PSDT, the pointers and what is reserved have no use either (profile)
abbrev pub unused : Command → List (ℕ × ℕ × ℕ)
unused c = (1, 1, 0) ∷ (8, 32, 0) ∷ unused_dwords c

-- these bits of an entry are 0: their bytes, as a number, are below 2 to how many are in use
abbrev pub AreZero : List ℕ → List (ℕ × ℕ × ℕ) → Type 0
AreZero entry all = AllByRecursion (λ bits. field entry bits.0 bits.1 < 2 ^ bits.2) all
