-- What a connection makes of what has come (NVMe over TCP Transport 1.0, 3.6; NVMe Base 2.0, 3.3.3.1).
use Rattle.std.specs.Prelude.{ℕ, Bool, nat_lt, not, ◌&&◌, List, [], find, length, take, drop, Option, Some, None, is_some, Result, Ok, Err, if◌then◌else◌}
use Rattle.tcp_pdus.specs.declared.fatal_error.FatalError.{FatalError}
use Rattle.tcp_pdus.specs.declared.fatal_error.FatalError.TheVariants.{PduSequence}
use Rattle.tcp_pdus.specs.declared.received.HostPdu.TheVariants.{IcReq, H2cTermReq, CapsuleCmd, H2cData}
use Rattle.tcp_pdus.specs.declared.transfer.ReadyToTransfer.{ReadyToTransfer}
use Rattle.tcp_pdus.specs.Initialize.{initialize_checked, initialize_request_in}
use Rattle.tcp_pdus.specs.Sent.{ic_resp, r2t}
use Rattle.tcp_connection.specs.declared.expected.Progress.{Progress}
use Rattle.tcp_connection.specs.declared.expected.Progress.TheVariants.{Partial, Whole, Failed}
use Rattle.tcp_connection.specs.declared.receiver.TheConstants.{MOST_IN_CAPSULE}
use Rattle.tcp_connection.specs.Receiving.{awaiting, expecting, next}
use Rattle.tcp_connection.specs.Transfers.{Transfer, free_tag, has_transfer}
use Rattle.zone_state.specs.declared.status.Status.{Status}
use Rattle.tcp_pdus.specs.Direction.{identifier_of}
use Rattle.tcp_pdus.specs.Sgl.{wanted_checked}
use Rattle.tcp_connection.specs.declared.queue.Outcome.{Outcome}
use Rattle.tcp_connection.specs.declared.queue.Phase.TheVariants.{Open}
use Rattle.tcp_connection.specs.declared.state.ConnectionState.{ConnectionState}
use Rattle.tcp_connection.specs.Commands.{WaitingCommand, count_of, has_command, waiting_with}
use Rattle.tcp_connection.specs.Sending.{answered, ended, failed}

-- the next PDU comes
abbrev pub with_next : ConnectionState → ConnectionState
with_next s = record s { receiver = next s.receiver }

-- an ICReq is answered, and capsules and data come from then on
abbrev pub initialized_by : Result ℕ FatalError → ConnectionState → ConnectionState × List ℕ
initialized_by (Ok alignment) s =
    (record s { receiver = awaiting MOST_IN_CAPSULE (next s.receiver); phase = Open alignment }, ic_resp)
initialized_by (Err error) s = failed error (take 128 s.receiver.pending) s

abbrev pub initialized : ConnectionState → ConnectionState × List ℕ
initialized s = initialized_by (initialize_checked (initialize_request_in (take 128 s.receiver.pending))) s

-- ---- commands

-- the R2T for all data that a command wants
abbrev pub transfer_of : ℕ → ℕ → ℕ → ReadyToTransfer
transfer_of tag command wanted = record { command = command; tag = tag; length = wanted }

abbrev pub asked : ℕ → ℕ → Option ℕ → ConnectionState → ConnectionState × List ℕ
asked tag command None s = (s, [])
asked tag command (Some wanted) s =
    (record s { receiver = expecting (transfer_of tag command wanted) s.receiver }, r2t (transfer_of tag command wanted))

-- a command that waits wants data by an R2T, and none is under way for it
abbrev pub is_unasked : List (Option Transfer) → WaitingCommand → Bool
is_unasked transfers command = is_some command.wanted && not (has_transfer (identifier_of command.entry) transfers)

-- the first of them
abbrev pub unasked : ConnectionState → Option WaitingCommand
unasked s = find (λ command. is_unasked s.receiver.expected.transfers command) s.commands.waiting

abbrev pub asked_for : ℕ → Option WaitingCommand → ConnectionState → ConnectionState × List ℕ
asked_for tag None s = (s, [])
asked_for tag (Some command) s = asked tag (identifier_of command.entry) command.wanted s

-- its data is asked for under the lowest tag that is free, where one is
abbrev pub looked_by : Option ℕ → ConnectionState → ConnectionState × List ℕ
looked_by None s = (s, [])
looked_by (Some tag) s = asked_for tag (unasked s) s

abbrev pub looked : ConnectionState → ConnectionState × List ℕ
looked s = looked_by (free_tag s.receiver.expected.transfers) s

-- a command joins those that wait
abbrev pub queued : WaitingCommand → ConnectionState → ConnectionState
queued command s = record (with_next s) { commands = waiting_with command s.commands }

abbrev pub joined : WaitingCommand → ConnectionState → ConnectionState × List ℕ
joined command s = looked (queued command s)

-- the data in the capsule that has come whole, and what the host is to send for it, or the status of the first check that fails
abbrev pub inside : ConnectionState → List ℕ
inside s = drop 72 s.receiver.pending

abbrev pub checked : List ℕ → ConnectionState → Result (Option ℕ) Status
checked entry s = wanted_checked entry (length (inside s))

-- a command that passes joins those that wait, with its data; one that doesn't is completed at once, with that status
abbrev pub refusal : Status → Outcome
refusal status = record { status = status; dw0 = 0; dw1 = 0 }

abbrev pub judged : Result (Option ℕ) Status → List ℕ → ConnectionState → ConnectionState × List ℕ
judged (Ok wanted) entry s = joined (record { entry = entry; «data» = inside s; wanted = wanted }) s
judged (Err status) entry s = answered (identifier_of entry) (refusal status) (with_next s)

-- there are fewer commands without a completion than the queue has entries, and none with this identifier
abbrev pub may_come : ℕ → ConnectionState → Bool
may_come command s = nat_lt (count_of s.commands) s.queue.entries && not (has_command command s.commands)

-- a capsule with this entry
abbrev pub commanded_by : List ℕ → ConnectionState → ConnectionState × List ℕ
commanded_by entry s =
    if may_come (identifier_of entry) s then judged (checked entry s) entry s else failed PduSequence (take 72 s.receiver.pending) s

abbrev pub commanded : ConnectionState → ConnectionState × List ℕ
commanded s = commanded_by (drop 8 (take 72 s.receiver.pending)) s

-- ---- all PDUs

abbrev pub dealt_by : Progress → ConnectionState → ConnectionState × List ℕ
dealt_by Partial s = (s, [])
dealt_by (Failed error) s = failed error s.receiver.pending s
dealt_by (Whole IcReq) s = initialized s
dealt_by (Whole H2cTermReq) s = (ended s, [])
dealt_by (Whole CapsuleCmd) s = commanded s
dealt_by (Whole H2cData) s = (with_next s, [])

-- what has come is dealt with, and what is sent then
abbrev pub dealt : ConnectionState → ConnectionState × List ℕ
dealt s = dealt_by s.receiver.progress s
