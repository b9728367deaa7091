-- Properties of a controller (NVMe Base 2.0, 3.1.3), and the Fabrics commands that get and set them (NVMe Base 2.0, 6.5 and 6.6).
use Rattle.std.specs.Prelude.{ℕ, Bool, true, false, not, ◌+◌, ◌*◌, ◌/◌, ◌%◌, ◌^◌, ◌==◌, ◌&&◌, ◌||◌, List, Option, Some, None, Result, Ok, Err, if◌then◌else◌, slice_index}
use Rattle.std.specs.Option.{ok_or}
use Rattle.common_definitions.specs.Bytes.{field}
use Rattle.common_definitions.specs.Readings.{◌>>=◌}
use Rattle.zone_state.specs.declared.status.Status.{Status}
use Rattle.zone_state.specs.declared.status.TheConstants.Status.{INVALID_FIELD_IN_COMMAND}
use Rattle.tcp_admin.specs.declared.controller.Controller.{Controller}
use Rattle.tcp_admin.specs.declared.controller.ControllerStatus.{ControllerStatus}
use Rattle.tcp_admin.specs.declared.properties.Property.{Property}
use Rattle.tcp_admin.specs.declared.properties.Property.TheVariants.{Capabilities, Version, Configuration, CurrentStatus}

-- ---- their values

-- CAP: MQES, zero-based, 128 entries (15:0); CQR, queues lie in one piece (16); TO, 20 times 500 ms (31:24); CSS, the NVM command
-- set (37) and one or more I/O command sets (43)
abbrev pub capabilities : ℕ
capabilities = 127 + 2 ^ 16 + 20 * 2 ^ 24 + 2 ^ 37 + 2 ^ 43

-- VS: the major number in bits 31:16, the minor in 15:8: 1.4
abbrev pub version : ℕ
version = 1 * 2 ^ 16 + 4 * 2 ^ 8

-- CC: EN (0), CSS (6:4), MPS (10:7), AMS (13:11), SHN (15:14), IOSQES (19:16), IOCQES (23:20)
abbrev pub is_enabled : ℕ → Bool
is_enabled cc = cc % 2 == 1

abbrev pub command_sets : ℕ → ℕ
command_sets cc = cc / 2 ^ 4 % 2 ^ 3

abbrev pub page_size : ℕ → ℕ
page_size cc = cc / 2 ^ 7 % 2 ^ 4

abbrev pub arbitration : ℕ → ℕ
arbitration cc = cc / 2 ^ 11 % 2 ^ 3

abbrev pub shutdown_notification : ℕ → ℕ
shutdown_notification cc = cc / 2 ^ 14 % 2 ^ 2

abbrev pub submission_entry_size : ℕ → ℕ
submission_entry_size cc = cc / 2 ^ 16 % 2 ^ 4

abbrev pub completion_entry_size : ℕ → ℕ
completion_entry_size cc = cc / 2 ^ 20 % 2 ^ 4

-- CSTS: RDY (0), CFS (1), SHST (3:2), which is 10b once the shutdown is complete
abbrev pub status_number : ControllerStatus → ℕ
status_number s = (if s.is_ready then 1 else 0) + (if s.is_fatal then 2 else 0) + (if s.is_shut_down then 2 * 4 else 0)

abbrev pub value_of : Property → Controller → ℕ
value_of Capabilities c = capabilities
value_of Version c = version
value_of Configuration c = c.configuration
value_of CurrentStatus c = status_number c.status

-- CSTS is just RDY
abbrev pub is_just_ready : ControllerStatus → Bool
is_just_ready s = s.is_ready && not s.is_fatal && not s.is_shut_down

-- ---- what a new value of CC does

-- entries are of 64 and 16 bytes, and the command set is NVM's, or all that are supported
abbrev pub has_sizes : ℕ → Bool
has_sizes cc = submission_entry_size cc == 6 && completion_entry_size cc == 4

abbrev pub has_defaults : ℕ → Bool
has_defaults cc = shutdown_notification cc == 0 && arbitration cc == 0 && page_size cc == 0

abbrev pub has_command_sets : ℕ → Bool
has_command_sets cc = command_sets cc == 0 || command_sets cc == 6

abbrev pub can_start : ℕ → Bool
can_start cc = has_sizes cc && has_defaults cc && has_command_sets cc

-- EN becomes 1: the controller is ready, or has failed
abbrev pub started : ℕ → ControllerStatus → ControllerStatus
started cc s = if can_start cc then record s { is_ready = true } else record s { is_fatal = true }

abbrev pub started_by : ℕ → ℕ → ControllerStatus → ControllerStatus
started_by old new s = if is_enabled new && not (is_enabled old) then started new s else s

-- a shutdown that is asked for is complete at once, since nothing has to be saved
abbrev pub shut_down_by : ℕ → ControllerStatus → ControllerStatus
shut_down_by new s = if shutdown_notification new == 0 then s else record s { is_shut_down = true }

-- EN is 0: it is neither ready nor failed
abbrev pub stopped_by : ℕ → ControllerStatus → ControllerStatus
stopped_by new s = if is_enabled new then s else record s { is_ready = false; is_fatal = false }

abbrev pub status_after : ℕ → ℕ → ControllerStatus → ControllerStatus
status_after old new s = stopped_by new (shut_down_by new (started_by old new s))

-- the event requests of a controller that isn't ready are dropped
abbrev pub requests_after : ControllerStatus → ℕ → ℕ
requests_after s requests = if is_just_ready s then requests else 0

abbrev pub configured_with : ControllerStatus → ℕ → Controller → Controller
configured_with status cc c =
    record c { configuration = cc; status = status; event_requests = requests_after status c.event_requests }

abbrev pub configured : ℕ → Controller → Controller
configured cc c = configured_with (status_after c.configuration cc c.status) cc c

-- ---- the commands

-- ATTRIB, bits 2:0 of byte 40: 0 for 4 bytes, 1 for 8; OFST in bytes 44 to 47
abbrev pub property_at : ℕ → ℕ → Option Property
property_at offset size =
    if offset == 0x00 && size == 1 then Some Capabilities else
    if offset == 0x08 && size == 0 then Some Version else
    if offset == 0x14 && size == 0 then Some Configuration else
    if offset == 0x1C && size == 0 then Some CurrentStatus else None

abbrev pub property_in : List ℕ → Result Property Status
property_in entry = ok_or (property_at (field entry 44 4) (slice_index entry 40 % 8)) INVALID_FIELD_IN_COMMAND

-- the value that Property Get gives
abbrev pub got : List ℕ → Controller → Result ℕ Status
got entry c = property_in entry >>= λ property. Ok (value_of property c)

-- VALUE in bytes 48 to 55, of which CC is the first four; no other property can be set
abbrev pub set_to : Property → ℕ → Controller → Result Controller Status
set_to Configuration cc c = Ok (configured cc c)
set_to Capabilities cc c = Err INVALID_FIELD_IN_COMMAND
set_to Version cc c = Err INVALID_FIELD_IN_COMMAND
set_to CurrentStatus cc c = Err INVALID_FIELD_IN_COMMAND

-- the controller behind a Property Set
abbrev pub set_by : List ℕ → Controller → Result Controller Status
set_by entry c = property_in entry >>= λ property. set_to property (field entry 48 4) c

abbrev pub set_state : Result Controller Status → Controller → Controller
set_state (Ok after) c = after
set_state (Err status) c = c

abbrev pub set_result : Result Controller Status → Result (Unit {0}) Status
set_result (Ok after) = Ok tt
set_result (Err status) = Err status

-- ---- a new controller

-- one that isn't enabled, with its identifier, and KATO of Connect
abbrev pub begun : ℕ → ℕ → Controller
begun id keep_alive = record {
  id = id;
  configuration = 0;
  status = record { is_ready = false; is_fatal = false; is_shut_down = false };
  keep_alive = keep_alive;
  event_configuration = 0;
  event_requests = 0;
}
