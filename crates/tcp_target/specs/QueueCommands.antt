-- The commands that are ready on connections, and what completes them.
use Rattle.std.specs.Prelude.{ℕ, Bool, false, not, ◌==◌, ◌&&◌, List, [], length, Option, Some, None, Result, Ok, Err, if◌then◌else◌, slice_index}
use Rattle.zone_state.specs.declared.status.Status.{Status}
use Rattle.zone_state.specs.declared.status.StatusType.{StatusType}
use Rattle.zone_state.specs.declared.status.StatusType.TheVariants.{Generic, CommandSpecific, VendorSpecific}
use Rattle.tcp_pdus.specs.declared.direction.Direction.{Direction}
use Rattle.tcp_pdus.specs.declared.direction.Direction.TheVariants.{Neither, FromHost, ToHost}
use Rattle.tcp_pdus.specs.Direction.{direction, identifier_of}
use Rattle.tcp_pdus.specs.Sgl.{descriptor_in}
use Rattle.tcp_connection.specs.declared.queue.Outcome.{Outcome}
use Rattle.tcp_connection.specs.Executing.{Execution, data_of, ready}
use Rattle.tcp_target.specs.declared.connect_checks.TheConstants.{DATA_SGL_LENGTH_INVALID}
use Rattle.tcp_target.specs.declared.connected.Connected.{Connected}
use Rattle.tcp_target.specs.declared.connect_request.ConnectRequest.{ConnectRequest}
use Rattle.tcp_target.specs.Connected.{refusal, success}
use Rattle.tcp_target.specs.Associations.{answer_of, is_live, joined}
use Rattle.tcp_target.specs.Places.{PlaceState, ready_at}
use Rattle.tcp_target.specs.PlaceEvents.{answered_at, connected_at, executed, handed_over, kept}
use Rattle.tcp_target.specs.Queues.{QueuesState, place_at, with_place}

-- a Fabrics command (NVMe Base 2.0, 6.1)
abbrev pub is_fabrics : List ℕ → Bool
is_fabrics entry = slice_index entry 0 == 0x7F

-- ---- commands for the device

-- of the commands that are ready those on live I/O queues go to the device, but for Fabrics commands
abbrev pub is_for_device : ℕ → List ℕ → QueuesState → Bool
is_for_device number entry s = is_live number s.associations && not (is_fabrics entry)

abbrev pub given_by : Option Execution → ℕ → QueuesState → Option Execution
given_by None number s = None
given_by (Some execution) number s = if is_for_device number execution.entry s then Some execution else None

-- the entry that goes to the device next, with all of its data
abbrev pub given_to_device : ℕ → QueuesState → Option Execution
given_to_device number s = given_by (ready_at (place_at number s)) number s

abbrev pub handed_over_at : ℕ → QueuesState → QueuesState
handed_over_at number s = with_place number (handed_over (place_at number s)) s

-- ---- commands that the target executes

abbrev pub kept_at : ℕ → QueuesState → QueuesState
kept_at number s = with_place number (kept (place_at number s)) s

abbrev pub answered : ℕ → ℕ → Outcome → List ℕ → QueuesState → QueuesState
answered number command outcome bytes s = with_place number (answered_at command outcome bytes (place_at number s)) s

-- Connect: the queue is set up, and the connection has it from then on; or it is refused, and all is as it was
abbrev pub connect_place : Result Connected Outcome → ℕ → PlaceState → PlaceState
connect_place (Ok c) command p = connected_at c.queue c.in_capsule command (success c.controller) p
connect_place (Err outcome) command p = answered_at command outcome [] p

abbrev pub connected_by : Result Connected Outcome → ℕ → ℕ → List ℕ → QueuesState → QueuesState
connected_by answer number command bytes s = record {
  places = (with_place number (connect_place answer command (place_at number s)) s).places;
  associations = joined number bytes answer s.associations;
}

abbrev pub connect_data_at : ℕ → QueuesState → List ℕ
connect_data_at number s = data_of (ready (place_at number s).connection)

abbrev pub connect_answer_at : ℕ → ConnectRequest → List ℕ → QueuesState → Result Connected Outcome
connect_answer_at number request subsystem_nqn s = answer_of request (connect_data_at number s) subsystem_nqn s.associations

abbrev pub connected : ℕ → ℕ → ConnectRequest → List ℕ → QueuesState → QueuesState
connected number command request subsystem_nqn s =
    connected_by (connect_answer_at number request subsystem_nqn s) number command (connect_data_at number s) s

-- ---- what the device gives

-- data comes where the host asked for it, as much as it asked for (NVMe Base 2.0, 4.1.2)
abbrev pub is_asked_for : Direction → ℕ → ℕ → Bool
is_asked_for Neither asked given = given == 0
is_asked_for FromHost asked given = given == 0
is_asked_for ToHost asked given = asked == given

abbrev pub fits : List ℕ → ℕ → Bool
fits entry given = is_asked_for (direction entry) (descriptor_in entry).length given

abbrev pub is_success_of : StatusType → ℕ → Bool
is_success_of Generic code = code == 0
is_success_of CommandSpecific code = false
is_success_of VendorSpecific code = false

abbrev pub is_success : Status → Bool
is_success status = is_success_of status.kind status.code

-- so a command that succeeded, but gives other data than was asked for, is refused, and its data is dropped
abbrev pub result_of : List ℕ → Outcome → List ℕ → Outcome × List ℕ
result_of entry outcome bytes =
    if is_success outcome.status && not (fits entry (length bytes)) then (refusal DATA_SGL_LENGTH_INVALID, []) else (outcome, bytes)

abbrev pub executed_at : ℕ → List ℕ → Outcome → List ℕ → QueuesState → QueuesState
executed_at number entry outcome bytes s =
    let r = result_of entry outcome bytes in with_place number (executed (identifier_of entry) r.0 r.1 (place_at number s)) s

-- a Run, which gives no data, ends long after it was handed over
abbrev pub run_ended_at : ℕ → ℕ → Outcome → QueuesState → QueuesState
run_ended_at number command outcome s = with_place number (executed command outcome [] (place_at number s)) s
