-- The fields of a submission queue entry and the command that they name.
use Rattle.std.specs.Prelude.{ℕ, ◌+◌, ◌*◌, ◌%◌, ◌==◌, nat_le, List, [], ◌∷◌, Option, Some, None, Result, Err, if◌then◌else◌, slice_index}
use Rattle.std.specs.Option.{ok_or, option_and_then, option_map}
use Rattle.common_definitions.specs.Readings.{unless_fault}
use Rattle.zone_state.specs.declared.action.Action.{Action}
use Rattle.zone_state.specs.declared.status.Status.{Status}
use Rattle.zone_state.specs.declared.status.TheConstants.Status.{INVALID_COMMAND_OPCODE, INVALID_FIELD_IN_COMMAND, INVALID_NAMESPACE_OR_FORMAT}
use Rattle.common_definitions.specs.Checks.{demand, first_failed}
use Rattle.zone_state.specs.Transition.{action_of}
use Rattle.nvme_entry.specs.declared.command.Opcode.{Opcode}
use Rattle.nvme_entry.specs.declared.command.Opcode.TheVariants as opcode
use Rattle.nvme_entry.specs.declared.command.Command.{Command}
use Rattle.nvme_entry.specs.declared.command.Command.TheVariants as command
use Rattle.nvme_entry.specs.declared.command.StandardCommand.TheVariants.{Write, Read, Send, Receive, Append}
use Rattle.nvme_entry.specs.declared.command.TheConstants.{MOST_TRANSFER}
use Rattle.nvme_entry.specs.declared.filter.ZoneFilter.{ZoneFilter}
use Rattle.common_definitions.specs.Bytes.{field}
use Rattle.nvme_entry.specs.Dwords.{dword}
use Rattle.nvme_entry.specs.Filter.{filter_of}
use Rattle.nvme_entry.specs.ProgramSlot.{program_slot_of}

-- Command Dword 0, bits 9:8: the number in FUSE, 0 for no part of a fused command (NVMe Base 2.0, 3.3.3.1)
abbrev pub fuse_of : List ℕ → ℕ
fuse_of entry = slice_index entry 1 % 4

-- Command Dword 0, bits 31:16
abbrev pub identifier_of : List ℕ → ℕ
identifier_of entry = field entry 2 2

-- the namespace identifier, which is Dword 1
abbrev pub namespace_identifier : List ℕ → ℕ
namespace_identifier entry = dword entry 1

-- Command Dwords 10 and 11: the starting logical block address
abbrev pub starting_lba : List ℕ → ℕ
starting_lba entry = field entry 40 8

-- Command Dword 12, bits 15:0: the number of logical blocks, which is zero-based
abbrev pub asked_blocks : List ℕ → ℕ
asked_blocks entry = field entry 48 2 + 1

-- the opcode with this code, Command Dword 0, bits 7:0 (NVM Command Set 1.0, 3.2; ZNS 1.1, 3.4). Those from 80h on are
-- left to vendors: the three here are profile.
abbrev pub opcode_of : ℕ → Option Opcode
opcode_of code =
    if code == 0x01 then Some opcode.Write else
    if code == 0x02 then Some opcode.Read else
    if code == 0x79 then Some opcode.ZoneManagementSend else
    if code == 0x7A then Some opcode.ZoneManagementReceive else
    if code == 0x7D then Some opcode.ZoneAppend else
    if code == 0xC0 then Some opcode.Run else
    if code == 0xC1 then Some opcode.Load else
    if code == 0xC2 then Some opcode.Result else None

-- Command Dword 12: the number of dwords, which is zero-based (ZNS 1.1, 3.4.2); none where they are more than one command moves
abbrev pub dwords_of : ℕ → Option ℕ
dwords_of count = if nat_le (4 * (count + 1)) MOST_TRANSFER then Some (count + 1) else None

-- Command Dword 13: the zone send action in bits 7:0, Select All in bit 8 (ZNS 1.1, 3.4.3)
abbrev pub send_of : List ℕ → Option Command
send_of entry = option_map
    (λ (what : Action). command.Standard (Send (starting_lba entry) what (slice_index entry 53 % 2 == 1)))
    (action_of (slice_index entry 52))

-- Command Dword 12: the number of dwords; Command Dword 13: the zone receive action in bits 7:0, of which 00h, Report Zones, is the
-- one that there is (profile), its filter in bits 15:8, and Partial Report in bit 16 (ZNS 1.1, 3.4.2)
abbrev pub receive_of : List ℕ → Option Command
receive_of entry = option_and_then
    (λ (dwords : ℕ). if slice_index entry 52 == 0x00
    then option_map (λ (filter : ZoneFilter). command.Standard (Receive (starting_lba entry) dwords filter (slice_index entry 54 % 2 == 1))) (filter_of (slice_index entry 53))
    else None)
    (dwords_of (dword entry 12))

-- a Run (profile), which has its source where a Read has what it reads. Command Dword 12, bits 23:16: the program slot; Command
-- Dword 13: the argument; Command Dwords 14 and 15: the lowest logical block address of the destination
abbrev pub run_command_of : List ℕ → Option Command
run_command_of entry = option_map
    (λ (slot : ℕ). command.Run record {
      lba = starting_lba entry;
      blocks = asked_blocks entry;
      slot = slot;
      argument = dword entry 13;
      destination = field entry 56 8;
    })
    (program_slot_of (slice_index entry 50))

-- a Load (profile). Command Dword 10: the program slot; Command Dword 11: the most bytes that the program may emit for a block;
-- Command Dword 12: the number of its bytes, which is not zero-based
abbrev pub load_of : List ℕ → Option Command
load_of entry =
    if nat_le (dword entry 12) MOST_TRANSFER
    then option_map (λ (slot : ℕ). command.Load record { slot = slot; limit = dword entry 11; bytes = dword entry 12 }) (program_slot_of (dword entry 10))
    else None

-- a Result (profile). Command Dword 10: the program slot
abbrev pub result_of : List ℕ → Option Command
result_of entry = option_map (λ (slot : ℕ). command.Result slot) (program_slot_of (dword entry 10))

-- the command that the fields name, where each has a value that it may have
abbrev pub command_of : Opcode → List ℕ → Option Command
command_of opcode.Write entry = Some (command.Standard (Write (starting_lba entry) (asked_blocks entry)))
command_of opcode.Read entry = Some (command.Standard (Read (starting_lba entry) (asked_blocks entry)))
command_of opcode.ZoneManagementSend entry = send_of entry
command_of opcode.ZoneManagementReceive entry = receive_of entry
command_of opcode.ZoneAppend entry = Some (command.Standard (Append (starting_lba entry) (asked_blocks entry)))
command_of opcode.Run entry = run_command_of entry
command_of opcode.Load entry = load_of entry
command_of opcode.Result entry = result_of entry

-- that command, or its refusal (profile)
abbrev pub asked : Opcode → List ℕ → Result Command Status
asked opcode entry = ok_or (command_of opcode entry) INVALID_FIELD_IN_COMMAND

-- the checks of an entry with an opcode that there is, in order (profile); the one namespace is 1 (profile)
abbrev pub entry_checks : List ℕ → List (Option Status)
entry_checks entry = demand (fuse_of entry == 0) INVALID_FIELD_IN_COMMAND ∷ demand (namespace_identifier entry == 1) INVALID_NAMESPACE_OR_FORMAT ∷ []

-- the command of an entry with this opcode, which there is or isn't
abbrev pub decoded_by : Option Opcode → List ℕ → Result Command Status
decoded_by None entry = Err INVALID_COMMAND_OPCODE
decoded_by (Some opcode) entry = unless_fault (first_failed (entry_checks entry)) (asked opcode entry)

-- the command of an entry, or the status of the first check that fails
abbrev pub decoded : List ℕ → Result Command Status
decoded entry = decoded_by (opcode_of (slice_index entry 0)) entry
