-- The commands that a target executes itself.
use Rattle.std.specs.Prelude.{ℕ, Bool, ◌^◌, ◌/◌, ◌%◌, ◌==◌, ◌&&◌, List, [], Option, Some, None, Result, Ok, Err, if◌then◌else◌, slice_index}
use Rattle.zone_state.specs.declared.status.Status.{Status}
use Rattle.zone_state.specs.declared.status.TheConstants.Status.{INVALID_COMMAND_OPCODE, SUCCESS}
use Rattle.tcp_pdus.specs.Direction.{identifier_of}
use Rattle.tcp_connection.specs.declared.queue.Outcome.{Outcome}
use Rattle.tcp_connection.specs.Executing.{Execution}
use Rattle.tcp_admin.specs.declared.answer.Answer.{Answer}
use Rattle.tcp_admin.specs.declared.answer.Answer.TheVariants.{Completed, Kept}
use Rattle.tcp_admin.specs.declared.controller.Controller.{Controller}
use Rattle.tcp_admin.specs.Admin.{response}
use Rattle.tcp_admin.specs.Properties.{got, is_just_ready, set_by, set_result, set_state}
use Rattle.tcp_admin.specs.Properties as properties
use Rattle.tcp_target.specs.declared.connected.Connected.{Connected}
use Rattle.tcp_target.specs.declared.connect_request.ConnectRequest.{ConnectRequest}
use Rattle.tcp_target.specs.Connected.{refusal}
use Rattle.tcp_target.specs.ConnectRequest.{request_in}
use Rattle.tcp_target.specs.declared.role.Role.{Role}
use Rattle.tcp_target.specs.declared.role.Role.TheVariants.{Unconnected, Admin, Io, Ended}
use Rattle.tcp_target.specs.Associations.{role_at}
use Rattle.tcp_target.specs.Places.{ready_at}
use Rattle.tcp_target.specs.QueueCommands.{answered, connect_answer_at, connected, is_fabrics, is_for_device, kept_at}
use Rattle.tcp_target.specs.Ends.{readied_at}
use Rattle.tcp_target.specs.Queues.{QueuesState, place_at}
use Rattle.tcp_target.specs.declared.outcomes.TheConstants.{COMMAND_SEQUENCE_ERROR}
use Rattle.tcp_target.specs.Target.{TargetState, controller_at, heard, heard_on_io, with_controller, with_queues}

-- a command is completed
abbrev pub answered_with : ℕ → List ℕ → Outcome → List ℕ → TargetState → TargetState
answered_with number entry outcome bytes t = with_queues (answered number (identifier_of entry) outcome bytes t.queues) t

abbrev pub refused_with : ℕ → List ℕ → Status → TargetState → TargetState
refused_with number entry status t = answered_with number entry (refusal status) [] t

-- ---- before Connect (NVMe Base 2.0, 6.3)

-- a Connect to an admin queue that succeeds makes a controller, which isn't enabled, and begins to wait for its host; one to an I/O queue
-- comes of the controller's host
abbrev pub with_made : ConnectRequest → Result Connected Outcome → TargetState → TargetState
with_made request (Ok c) t =
    if c.queue.id == 0
    then heard c.controller (with_controller c.controller (properties.begun c.controller request.keep_alive_timeout) t)
    else heard_on_io c.controller t
with_made request (Err outcome) t = t

abbrev pub connected_with : ℕ → List ℕ → ConnectRequest → TargetState → TargetState
connected_with number entry request t =
    with_made request (connect_answer_at number request t.subsystem.nqn t.queues)
    (with_queues (connected number (identifier_of entry) request t.subsystem.nqn t.queues) t)

-- FCTYPE, the type of a Fabrics command, is in byte 4: Connect is 01h
abbrev pub is_connect : List ℕ → Bool
is_connect entry = is_fabrics entry && slice_index entry 4 == 0x01

abbrev pub served_unconnected : ℕ → List ℕ → TargetState → TargetState
served_unconnected number entry t =
    if is_connect entry then connected_with number entry (request_in entry) t else refused_with number entry COMMAND_SEQUENCE_ERROR t

-- ---- on an admin queue

-- the value of a property is in Dwords 0 and 1
abbrev pub value_outcome : Result ℕ Status → Outcome
value_outcome (Ok value) = record { status = SUCCESS; dw0 = value % 2 ^ 32; dw1 = value / 2 ^ 32 }
value_outcome (Err status) = refusal status

abbrev pub set_outcome : Result (Unit {0}) Status → Outcome
set_outcome (Ok done) = record { status = SUCCESS; dw0 = 0; dw1 = 0 }
set_outcome (Err status) = refusal status

-- a Property Set is completed once the I/O queues of a controller that isn't ready have ended
abbrev pub with_set : ℕ → Controller → TargetState → TargetState
with_set id c t = with_controller id c (with_queues (readied_at id (is_just_ready c.status) t.queues) t)

abbrev pub served_set : ℕ → ℕ → List ℕ → TargetState → TargetState
served_set number id entry t =
    let r = set_by entry (controller_at id t) in
    answered_with number entry (set_outcome (set_result r)) [] (with_set id (set_state r (controller_at id t)) t)

abbrev pub served_get : ℕ → ℕ → List ℕ → TargetState → TargetState
served_get number id entry t = answered_with number entry (value_outcome (got entry (controller_at id t))) [] t

-- FCTYPE 00h is Property Set, 04h Property Get; there is only one Connect
abbrev pub served_fabrics : ℕ → ℕ → List ℕ → TargetState → TargetState
served_fabrics number id entry t =
    if slice_index entry 4 == 0x00 then served_set number id entry t else
    if slice_index entry 4 == 0x04 then served_get number id entry t else
    if slice_index entry 4 == 0x01 then refused_with number entry COMMAND_SEQUENCE_ERROR t
    else refused_with number entry INVALID_COMMAND_OPCODE t

-- an admin command is completed with its data, or kept; KATO may be another after it, from which its host is waited for anew
abbrev pub completed_by : Answer → ℕ → List ℕ → List ℕ → QueuesState → QueuesState
completed_by (Completed outcome) number entry bytes q = answered number (identifier_of entry) outcome bytes q
completed_by Kept number entry bytes q = kept_at number q

abbrev pub served_command : ℕ → ℕ → List ℕ → TargetState → TargetState
served_command number id entry t =
    let r = response entry t.subsystem t.format (controller_at id t) in
    heard id (with_controller id r.controller (with_queues (completed_by r.answer number entry r.«data» t.queues) t))

abbrev pub served_admin : ℕ → ℕ → List ℕ → TargetState → TargetState
served_admin number id entry t =
    if is_fabrics entry then served_fabrics number id entry t else served_command number id entry t

-- ---- on an I/O queue

-- there is no Fabrics command for it; all others go to the device, while its controller is ready
abbrev pub served_io : ℕ → List ℕ → TargetState → TargetState
served_io number entry t =
    if is_fabrics entry then refused_with number entry INVALID_COMMAND_OPCODE t else
    if is_for_device number entry t.queues then t else refused_with number entry COMMAND_SEQUENCE_ERROR t

-- ---- all of them

abbrev pub served_as : Role → ℕ → List ℕ → TargetState → TargetState
served_as Unconnected number entry t = served_unconnected number entry t
served_as (Admin id) number entry t = served_admin number id entry t
served_as (Io id queue) number entry t = served_io number entry t
served_as Ended number entry t = t

abbrev pub served_by : Option Execution → ℕ → TargetState → TargetState
served_by None number t = t
served_by (Some execution) number t = served_as (role_at number t.queues.associations) number execution.entry t

-- the command that is ready on a connection is executed, unless it is one for the device
abbrev pub served : ℕ → TargetState → TargetState
served number t = served_by (ready_at (place_at number t.queues)) number t
