-- The numbers of the statuses and of the states.
use Rattle.std.specs.Prelude.{ℕ, ◌≡◌, [], ◌∷◌, map}
use Rattle.zone_state.specs.State.{code_of}
use Rattle.zone_state.specs.Status.{type_number}
use Rattle.zone_state.specs.declared.state.TheConstants.ZoneState.{ALL}
use Rattle.zone_state.specs.declared.status.Status.{Status}
use Rattle.zone_state.specs.declared.status.TheConstants.Status.{SUCCESS, INVALID_COMMAND_OPCODE, INVALID_FIELD_IN_COMMAND, INVALID_NAMESPACE_OR_FORMAT, LBA_OUT_OF_RANGE}
use Rattle.zone_state.specs.declared.status.TheConstants.Status.{ZONE_BOUNDARY_ERROR, ZONE_IS_FULL, ZONE_IS_READ_ONLY, ZONE_IS_OFFLINE, ZONE_INVALID_WRITE, TOO_MANY_ACTIVE_ZONES, TOO_MANY_OPEN_ZONES, INVALID_ZONE_STATE_TRANSITION}
use Rattle.zone_state.specs.declared.status.TheConstants.Status.{ZONE_HELD, NO_SUCH_PROGRAM, PROGRAM_REFUSED, NO_RUN_FREE, SOURCE_NOT_WRITTEN, DESTINATION_NOT_OPEN, DESTINATION_LACKS_ROOM, WANT_OF_MEMORY, PROGRAM_TRAPPED, SOURCE_IS_DESTINATION, PROGRAM_IN_USE}

-- the number of a status's type, and its code (NVMe Base 2.0, 3.3.3.2)
abbrev pub type_and_code : Status → ℕ × ℕ
type_and_code status = (type_number status.kind, status.code)

-- each status has the standards' type and code, those of runs and programs the profile's
pub record StatusesAreTheStandards : Type 0 where
  -- generic command status (NVMe Base 2.0, 3.3.3.2)
  pub success : type_and_code SUCCESS ≡ (0x0, 0x00)
  pub invalid_command_opcode : type_and_code INVALID_COMMAND_OPCODE ≡ (0x0, 0x01)
  pub invalid_field_in_command : type_and_code INVALID_FIELD_IN_COMMAND ≡ (0x0, 0x02)
  pub invalid_namespace_or_format : type_and_code INVALID_NAMESPACE_OR_FORMAT ≡ (0x0, 0x0B)
  pub lba_out_of_range : type_and_code LBA_OUT_OF_RANGE ≡ (0x0, 0x80)
  -- command specific status (NVMe Base 2.0, 3.3.3.2), of the Zoned Namespace Command Set
  pub zone_boundary_error : type_and_code ZONE_BOUNDARY_ERROR ≡ (0x1, 0xB8)
  pub zone_is_full : type_and_code ZONE_IS_FULL ≡ (0x1, 0xB9)
  pub zone_is_read_only : type_and_code ZONE_IS_READ_ONLY ≡ (0x1, 0xBA)
  pub zone_is_offline : type_and_code ZONE_IS_OFFLINE ≡ (0x1, 0xBB)
  pub zone_invalid_write : type_and_code ZONE_INVALID_WRITE ≡ (0x1, 0xBC)
  pub too_many_active_zones : type_and_code TOO_MANY_ACTIVE_ZONES ≡ (0x1, 0xBD)
  pub too_many_open_zones : type_and_code TOO_MANY_OPEN_ZONES ≡ (0x1, 0xBE)
  pub invalid_zone_state_transition : type_and_code INVALID_ZONE_STATE_TRANSITION ≡ (0x1, 0xBF)
  -- vendor specific status (NVMe Base 2.0, 3.3.3.2); what each says is profile
  pub zone_held : type_and_code ZONE_HELD ≡ (0x7, 0xC0)
  pub no_such_program : type_and_code NO_SUCH_PROGRAM ≡ (0x7, 0xC1)
  pub program_refused : type_and_code PROGRAM_REFUSED ≡ (0x7, 0xC2)
  pub no_run_free : type_and_code NO_RUN_FREE ≡ (0x7, 0xC3)
  pub source_not_written : type_and_code SOURCE_NOT_WRITTEN ≡ (0x7, 0xC4)
  pub destination_not_open : type_and_code DESTINATION_NOT_OPEN ≡ (0x7, 0xC5)
  pub destination_lacks_room : type_and_code DESTINATION_LACKS_ROOM ≡ (0x7, 0xC6)
  pub want_of_memory : type_and_code WANT_OF_MEMORY ≡ (0x7, 0xC7)
  pub program_trapped : type_and_code PROGRAM_TRAPPED ≡ (0x7, 0xC8)
  pub source_is_destination : type_and_code SOURCE_IS_DESTINATION ≡ (0x7, 0xC9)
  pub program_in_use : type_and_code PROGRAM_IN_USE ≡ (0x7, 0xCA)

-- all states are listed in the order of their codes (ZNS 1.1, 3.4.2): Empty, Implicitly Opened, Explicitly Opened, Closed, Read
-- Only, Full, Offline
abbrev pub StatesAreInOrder : Type 0
StatesAreInOrder = map code_of ALL ≡ 0x1 ∷ 0x2 ∷ 0x3 ∷ 0x4 ∷ 0xD ∷ 0xE ∷ 0xF ∷ []
