-- Admin commands (NVMe Base 2.0, 5), and what each comes to.
use Rattle.std.specs.Prelude.{ℕ, ◌+◌, ◌==◌, nat_lt, List, [], Option, Some, None, Ok, Err, if◌then◌else◌, slice_index}
use Rattle.zone_state.specs.declared.status.TheConstants.Status.{INVALID_COMMAND_OPCODE}
use Rattle.tcp_admin.specs.declared.admin.AdminCommand.{AdminCommand}
use Rattle.tcp_admin.specs.declared.admin.AdminCommand.TheVariants.{GetLogPage, Identify, Abort, SetFeatures, GetFeatures, AsynchronousEventRequest, KeepAlive}
use Rattle.tcp_admin.specs.declared.answer.Answer.TheVariants.{Kept}
use Rattle.tcp_admin.specs.declared.controller.Controller.{Controller}
use Rattle.tcp_admin.specs.declared.status.TheConstants.{ASYNCHRONOUS_EVENT_REQUEST_LIMIT_EXCEEDED}
use Rattle.tcp_admin.specs.declared.subsystem.NamespaceFormat.{NamespaceFormat}
use Rattle.tcp_admin.specs.declared.subsystem.Subsystem.{Subsystem}
use Rattle.tcp_admin.specs.Answers.{Response, gives, tells}
use Rattle.tcp_admin.specs.Features.{feature_got, features_set}
use Rattle.tcp_admin.specs.Identify.{identified}
use Rattle.tcp_admin.specs.Logs.{logged}

-- the opcode, in byte 0
abbrev pub command_of : ℕ → Option AdminCommand
command_of opcode =
    if opcode == 0x02 then Some GetLogPage else
    if opcode == 0x06 then Some Identify else
    if opcode == 0x08 then Some Abort else
    if opcode == 0x09 then Some SetFeatures else
    if opcode == 0x0A then Some GetFeatures else
    if opcode == 0x0C then Some AsynchronousEventRequest else
    if opcode == 0x18 then Some KeepAlive else None

-- four requests for events are kept, and never completed, as no event is told
abbrev pub event_awaited : Controller → Response
event_awaited c =
    if nat_lt c.event_requests 4
    then record { controller = record c { event_requests = c.event_requests + 1 }; answer = Kept; «data» = [] }
    else tells c (Err ASYNCHRONOUS_EVENT_REQUEST_LIMIT_EXCEEDED)

-- Abort aborts nothing, which bit 0 of Dword 0 tells
abbrev pub response_to : AdminCommand → List ℕ → Subsystem → NamespaceFormat → Controller → Response
response_to GetLogPage entry s n c = gives c (logged entry s)
response_to Identify entry s n c = gives c (identified entry c.id s n)
response_to Abort entry s n c = tells c (Ok 1)
response_to SetFeatures entry s n c = let after = features_set entry c in tells after.0 after.1
response_to GetFeatures entry s n c = tells c (feature_got entry c)
response_to AsynchronousEventRequest entry s n c = event_awaited c
response_to KeepAlive entry s n c = tells c (Ok 0)

abbrev pub response_by : Option AdminCommand → List ℕ → Subsystem → NamespaceFormat → Controller → Response
response_by None entry s n c = tells c (Err INVALID_COMMAND_OPCODE)
response_by (Some command) entry s n c = response_to command entry s n c

abbrev pub response : List ℕ → Subsystem → NamespaceFormat → Controller → Response
response entry s n c = response_by (command_of (slice_index entry 0)) entry s n c
