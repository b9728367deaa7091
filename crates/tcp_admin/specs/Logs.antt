-- Get Log Page (NVMe Base 2.0, 5.16): the pages, byte by byte, and what is given of one.
use Rattle.std.specs.Prelude.{ℕ, Bool, ◌+◌, ◌*◌, ◌%◌, ◌==◌, nat_le, List, [], ◌∷◌, ◌++◌, Option, Some, None, Result, Ok, if◌then◌else◌, slice_index}
use Rattle.std.specs.Option.{ok_or}
use Rattle.common_definitions.specs.Bytes.{field}
use Rattle.common_definitions.specs.Checks.{demand, first_failed, unless_failed}
use Rattle.common_definitions.specs.Readings.{◌>>=◌}
use Rattle.zone_state.specs.declared.status.Status.{Status}
use Rattle.zone_state.specs.declared.status.TheConstants.Status.{INVALID_FIELD_IN_COMMAND}
use Rattle.tcp_admin.specs.declared.logs.LogPage.{LogPage}
use Rattle.tcp_admin.specs.declared.logs.LogPage.TheVariants.{ErrorInformation, SmartHealth, FirmwareSlot, CommandEffects}
use Rattle.tcp_admin.specs.declared.logs.LogPart.{LogPart}
use Rattle.tcp_admin.specs.declared.status.TheConstants.{INVALID_LOG_PAGE}
use Rattle.tcp_admin.specs.declared.subsystem.Subsystem.{Subsystem}
use Rattle.tcp_admin.specs.Identify.{zoned}
use Rattle.tcp_admin.specs.Pages.{Field, byte_at, bytes_at, number_at, page, part_of}
use Rattle.tcp_admin.specs.Transfers.{has_length}

-- ---- the pages

-- SMART / Health Information: the Composite Temperature, 300 kelvins
abbrev pub health_fields : List Field
health_fields = number_at 1 2 300 ∷ []

-- Firmware Slot Information: AFI, slot 1 is active; FRS1, its revision
abbrev pub firmware_fields : Subsystem → List Field
firmware_fields s = byte_at 0 1 ∷ bytes_at 8 s.firmware ∷ []

-- Commands Supported and Effects: four bytes for each opcode, from 0 on of admin commands, from 1024 on of I/O commands: CSUPP (bit 0),
-- supported, and LBCC (bit 1), changes blocks
abbrev pub admin_command : ℕ → Field
admin_command opcode = number_at (4 * opcode) 4 1

abbrev pub reads : ℕ → Field
reads opcode = number_at (1024 + 4 * opcode) 4 1

abbrev pub changes : ℕ → Field
changes opcode = number_at (1024 + 4 * opcode) 4 (1 + 2)

-- Get Log Page, Identify, Abort, Set Features, Get Features, Asynchronous Event Request and Keep Alive
abbrev pub admin_commands : List Field
admin_commands =
    admin_command 0x02 ∷ admin_command 0x06 ∷ admin_command 0x08 ∷ admin_command 0x09 ∷ admin_command 0x0A
    ∷ admin_command 0x0C ∷ admin_command 0x18 ∷ []

-- of zoned namespaces: Write, Read, Zone Management Send, Zone Management Receive and Zone Append,
abbrev pub zoned_commands : List Field
zoned_commands = changes 0x01 ∷ reads 0x02 ∷ changes 0x79 ∷ reads 0x7A ∷ changes 0x7D ∷ []

-- and for programs Run, Load and Result
abbrev pub program_commands : List Field
program_commands = changes 0xC0 ∷ reads 0xC1 ∷ reads 0xC2 ∷ []

abbrev pub effects_fields : Bool → List Field
effects_fields is_zoned = if is_zoned then admin_commands ++ zoned_commands ++ program_commands else admin_commands

-- ---- which is given, and how much of it

-- LID in byte 40
abbrev pub log_page_of : ℕ → Option LogPage
log_page_of lid =
    if lid == 0x01 then Some ErrorInformation else
    if lid == 0x02 then Some SmartHealth else
    if lid == 0x03 then Some FirmwareSlot else
    if lid == 0x05 then Some CommandEffects else None

abbrev pub page_bytes : LogPage → ℕ
page_bytes ErrorInformation = 64
page_bytes SmartHealth = 512
page_bytes FirmwareSlot = 512
page_bytes CommandEffects = 4096

-- NUMDL and NUMDU, zero-based, in dwords, in bytes 42 to 45; LPOL and LPOU in bytes 48 to 55; CSI in byte 59
abbrev pub wanted_bytes : List ℕ → ℕ
wanted_bytes entry = 4 * (field entry 42 4 + 1)

abbrev pub part_in : LogPage → List ℕ → LogPart
part_in log entry = record {
  page = log;
  size = wanted_bytes entry;
  offset = field entry 48 8;
  command_set = slice_index entry 59;
}

-- at most 4096 bytes are given, from a dword within the page on, or from its end
abbrev pub is_within : LogPart → Bool
is_within part = nat_le part.offset (page_bytes part.page)

abbrev pub log_checks : LogPart → List ℕ → List (Option Status)
log_checks part entry =
    demand (nat_le part.size 4096) INVALID_FIELD_IN_COMMAND ∷ demand (part.offset % 4 == 0) INVALID_FIELD_IN_COMMAND
    ∷ demand (is_within part) INVALID_FIELD_IN_COMMAND ∷ has_length entry part.size ∷ []

-- the fields of a page: the one entry of Error Information tells of no error, and is zeros
abbrev pub log_fields : LogPage → ℕ → Subsystem → List Field
log_fields ErrorInformation csi s = []
log_fields SmartHealth csi s = health_fields
log_fields FirmwareSlot csi s = firmware_fields s
log_fields CommandEffects csi s = effects_fields (csi == zoned)

abbrev pub log_bytes : LogPage → ℕ → Subsystem → List ℕ
log_bytes log csi s = page (page_bytes log) (log_fields log csi s)

abbrev pub part_bytes : LogPart → Subsystem → List ℕ
part_bytes part s = part_of part.offset part.size (log_bytes part.page part.command_set s)

abbrev pub log_part : List ℕ → Result LogPart Status
log_part entry =
    ok_or (log_page_of (slice_index entry 40)) INVALID_LOG_PAGE >>= λ log.
    unless_failed (first_failed (log_checks (part_in log entry) entry)) (part_in log entry)

abbrev pub logged : List ℕ → Subsystem → Result (List ℕ) Status
logged entry s = log_part entry >>= λ part. Ok (part_bytes part s)
