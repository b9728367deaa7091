-- Laws of entries: where the fields of a command stand, and that nothing else counts.
use Rattle.std.specs.Prelude.{ℕ, ◌≡◌, ◌≤◌, ◌<◌, ◌+◌, ◌*◌, ◌%◌, ◌==◌, List, slice_index, Some, Ok}
use Rattle.zone_state.specs.Transition.{action_of}
use Rattle.nvme_entry.specs.Entry.{decoded}
use Rattle.common_definitions.specs.Bytes.{field}
use Rattle.nvme_entry.specs.Filter.{filter_of}
use Rattle.nvme_entry.specs.declared.command.Command.{Command}
use Rattle.nvme_entry.specs.declared.command.Command.TheVariants as command
use Rattle.nvme_entry.specs.declared.command.StandardCommand.TheVariants.{Write, Read, Send, Receive, Append}
use Rattle.nvme_entry.specs.declared.command.TheConstants.{MOST_TRANSFER}
use Rattle.nvme_entry.specs.declared.program_slot.TheConstants.{PROGRAM_SLOTS}

-- an entry has the opcode of a command in byte 0, and its fields, which have a value that they may have, as numbers of the bytes
-- from one on, the lowest first (NVM Command Set 1.0, 3.2; ZNS 1.1, 3.4; those of Run, Load and Result are profile)
abbrev pub Spells : List ℕ → Command → Type 0
Spells entry (command.Standard (Write lba blocks)) = (slice_index entry 0 ≡ 0x01) × (lba ≡ field entry 40 8) × (blocks ≡ field entry 48 2 + 1)
Spells entry (command.Standard (Read lba blocks)) = (slice_index entry 0 ≡ 0x02) × (lba ≡ field entry 40 8) × (blocks ≡ field entry 48 2 + 1)
Spells entry (command.Standard (Append lba blocks)) = (slice_index entry 0 ≡ 0x7D) × (lba ≡ field entry 40 8) × (blocks ≡ field entry 48 2 + 1)
Spells entry (command.Standard (Send lba action select_all)) =
    (slice_index entry 0 ≡ 0x79)
    × (lba ≡ field entry 40 8)
    × (action_of (slice_index entry 52) ≡ Some action)
    × (select_all ≡ (slice_index entry 53 % 2 == 1))
Spells entry (command.Standard (Receive lba dwords filter partial)) =
    (slice_index entry 0 ≡ 0x7A)
    × (lba ≡ field entry 40 8)
    × (dwords ≡ field entry 48 4 + 1)
    × (4 * dwords ≤ MOST_TRANSFER)
    × (slice_index entry 52 ≡ 0x00)
    × (filter_of (slice_index entry 53) ≡ Some filter)
    × (partial ≡ (slice_index entry 54 % 2 == 1))
Spells entry (command.Run run) =
    (slice_index entry 0 ≡ 0xC0)
    × (run.lba ≡ field entry 40 8)
    × (run.blocks ≡ field entry 48 2 + 1)
    × (run.slot ≡ slice_index entry 50)
    × (run.slot < PROGRAM_SLOTS)
    × (run.argument ≡ field entry 52 4)
    × (run.destination ≡ field entry 56 8)
Spells entry (command.Load load) =
    (slice_index entry 0 ≡ 0xC1)
    × (load.slot ≡ field entry 40 4)
    × (load.slot < PROGRAM_SLOTS)
    × (load.limit ≡ field entry 44 4)
    × (load.bytes ≡ field entry 48 4)
    × (load.bytes ≤ MOST_TRANSFER)
Spells entry (command.Result slot) = (slice_index entry 0 ≡ 0xC2) × (slot ≡ field entry 40 4) × (slot < PROGRAM_SLOTS)

-- an entry asks for a command: it is no part of a fused one, is for namespace 1, and spells it
abbrev pub AsksFor : List ℕ → Command → Type 0
AsksFor entry c = (slice_index entry 1 % 4 ≡ 0) × (field entry 4 4 ≡ 1) × Spells entry c

-- an entry that is decoded to a command asks for it,
abbrev pub FieldsAreSpelled : Type 0
FieldsAreSpelled = (entry : List ℕ) (c : Command) → decoded entry ≡ Ok c → AsksFor entry c

-- and one that asks for a command is decoded to it
abbrev pub SpelledEntriesAreDecoded : Type 0
SpelledEntriesAreDecoded = (entry : List ℕ) (c : Command) → AsksFor entry c → decoded entry ≡ Ok c

-- two entries agree in the opcode, in bits 1:0 of byte 1, in the namespace, and in what they spell
pub record AgreeInNamedFields (entry other : List ℕ) : Type 0 where
  pub opcode : slice_index entry 0 ≡ slice_index other 0
  pub fuse : slice_index entry 1 % 4 ≡ slice_index other 1 % 4
  pub namespace : field entry 4 4 ≡ field other 4 4
  pub fields : (c : Command) → (Spells entry c → Spells other c) × (Spells other c → Spells entry c)

-- such entries are decoded, or refused, alike, whatever else stands in them
abbrev pub OnlyNamedFieldsCount : Type 0
OnlyNamedFieldsCount = (entry other : List ℕ) → AgreeInNamedFields entry other → decoded entry ≡ decoded other
