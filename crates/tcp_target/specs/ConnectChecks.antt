-- The checks of a Connect, in order (NVMe Base 2.0, 6.3), and what it comes to.
use Rattle.std.specs.Prelude.{ℕ, Bool, false, not, nat_le, ◌==◌, ◌&&◌, ◌||◌, List, [], ◌∷◌, length, Option, Some, None, is_some, unwrap_or, Result, if◌then◌else◌}
use Rattle.std.specs.Str.{bytes_eq}
use Rattle.common_definitions.specs.Checks.{demand, first_failed, unless_failed}
use Rattle.tcp_connection.specs.declared.queue.Outcome.{Outcome}
use Rattle.tcp_target.specs.declared.connect_checks.TheConstants.{CONNECT_CONTROLLER_BUSY, CONNECT_INCOMPATIBLE_FORMAT, DATA_SGL_LENGTH_INVALID}
use Rattle.tcp_target.specs.declared.connected.Connected.{Connected}
use Rattle.tcp_target.specs.declared.connected.Controllers.{Controllers}
use Rattle.tcp_target.specs.declared.connected.NamedController.{NamedController}
use Rattle.tcp_target.specs.declared.connect_data.ConnectData.{ConnectData}
use Rattle.tcp_target.specs.declared.connect_data.Host.{Host}
use Rattle.tcp_target.specs.declared.connect_request.ConnectRequest.{ConnectRequest}
use Rattle.tcp_target.specs.Connected.{connected, invalid_in_data, invalid_in_entry, refusal}
use Rattle.tcp_target.specs.ConnectData.{connect_data_in, is_same_host}
use Rattle.tcp_target.specs.QualifiedName.{name_in}
use Rattle.tcp_target.specs.ConnectRequest.{has_size}

abbrev pub is_admin : ConnectRequest → Bool
is_admin request = request.queue == 0

-- the controller that CNTLID names is one that this host made
abbrev pub is_of_host : Option NamedController → Host → Bool
is_of_host None host = false
is_of_host (Some named) host = is_same_host named.host host

-- an admin queue is of any controller, an I/O queue of one that the same host made
abbrev pub has_controller : ConnectRequest → ConnectData → Option NamedController → Bool
has_controller request «data» named =
    if is_admin request then «data».controller == 0xFFFF else is_of_host named «data».host

-- an I/O queue is one of 8 (profile) that has no connection, of a controller that is ready
abbrev pub is_free : Option NamedController → Bool
is_free None = false
is_free (Some named) = named.is_ready && not named.has_connection

abbrev pub has_queue : ConnectRequest → Option NamedController → Bool
has_queue request named = is_admin request || (nat_le request.queue 8 && is_free named)

-- an admin queue makes a controller
abbrev pub has_room : ConnectRequest → Option ℕ → Bool
has_room request free = not (is_admin request) || is_some free

-- QID (byte 42 of the entry), SQSIZE (byte 44), and room for one more controller
abbrev pub queue_checks : ConnectRequest → Controllers → List (Option Outcome)
queue_checks request controllers =
    demand (has_queue request controllers.named) (invalid_in_entry 42)
    ∷ demand (has_size request) (invalid_in_entry 44)
    ∷ demand (has_room request controllers.free) (refusal CONNECT_CONTROLLER_BUSY) ∷ []

-- SUBNQN (byte 256 of the data), CNTLID (byte 16), and behind them those of the queue
abbrev pub data_checks : ConnectRequest → ConnectData → List ℕ → Controllers → List (Option Outcome)
data_checks request «data» subsystem_nqn controllers =
    demand (bytes_eq (name_in «data».subsystem_nqn) subsystem_nqn) (invalid_in_data 256)
    ∷ demand (has_controller request «data» controllers.named) (invalid_in_data 16) ∷ queue_checks request controllers

-- RECFMT, the length of the data, and behind them those of the data
abbrev pub connect_checks : ConnectRequest → List ℕ → List ℕ → Controllers → List (Option Outcome)
connect_checks request bytes subsystem_nqn controllers =
    demand (request.record_format == 0) (refusal CONNECT_INCOMPATIBLE_FORMAT)
    ∷ demand (length bytes == 1024) (refusal DATA_SGL_LENGTH_INVALID)
    ∷ data_checks request (connect_data_in bytes) subsystem_nqn controllers

-- the queue is of the controller that is made, or of the one that CNTLID names
abbrev pub controller_of : ConnectRequest → ℕ → Option ℕ → ℕ
controller_of request named free = if is_admin request then unwrap_or free 0 else named

-- the queue that is set up, or what completes the command where a check fails
abbrev pub answer_by : List (Option Outcome) → ConnectRequest → ℕ → Controllers → Result Connected Outcome
answer_by checks request controller controllers =
    unless_failed (first_failed checks) (connected request (controller_of request controller controllers.free))

abbrev pub queue_answer : ConnectRequest → ℕ → Controllers → Result Connected Outcome
queue_answer request controller controllers = answer_by (queue_checks request controllers) request controller controllers

abbrev pub data_answer : ConnectRequest → ConnectData → List ℕ → Controllers → Result Connected Outcome
data_answer request «data» subsystem_nqn controllers =
    answer_by (data_checks request «data» subsystem_nqn controllers) request «data».controller controllers

abbrev pub connect_answer : ConnectRequest → List ℕ → List ℕ → Controllers → Result Connected Outcome
connect_answer request bytes subsystem_nqn controllers =
    answer_by (connect_checks request bytes subsystem_nqn controllers) request (connect_data_in bytes).controller controllers
