-- The command that is to be executed next, and what completes one.
use Rattle.std.specs.Prelude.{ℕ, ◌≡◌, List, [], ◌∷◌, ◌++◌, Option, Some, None, if◌then◌else◌}
use Rattle.tcp_pdus.specs.Direction.{identifier_of}
use Rattle.tcp_pdus.specs.Sent.{c2h_data}
use Rattle.tcp_connection.specs.Receiving.{IsBetween, ReceiverState, awaiting, forgetting}
use Rattle.tcp_connection.specs.Transfers.{Transfer, data_of_command}
use Rattle.tcp_connection.specs.declared.queue.Outcome.{Outcome}
use Rattle.tcp_connection.specs.declared.queue.Phase.{Phase}
use Rattle.tcp_connection.specs.declared.queue.Phase.TheVariants.{Initializing, Open, Ended}
use Rattle.tcp_connection.specs.declared.queue.Queue.{Queue}
use Rattle.tcp_connection.specs.declared.state.ConnectionState.{ConnectionState}
use Rattle.tcp_connection.specs.Commands.{WaitingCommand, first_of, is_running, started, without}
use Rattle.tcp_connection.specs.Dealing.{looked}
use Rattle.tcp_connection.specs.Queue.{is_ended}
use Rattle.tcp_connection.specs.Sending.{answered}

-- an entry with its data
pub record Execution : Type 0 where
  pub entry : List ℕ
  pub «data» : List ℕ

-- its data: what is in its capsule; or, where it wants some by an R2T, all of that once it has come
abbrev pub data_for : Option ℕ → WaitingCommand → List (Option Transfer) → Option (List ℕ)
data_for None command transfers = Some command.data
data_for (Some wanted) command transfers = data_of_command (identifier_of command.entry) transfers

abbrev pub execution_of : List ℕ → Option (List ℕ) → Option Execution
execution_of entry None = None
execution_of entry (Some bytes) = Some (record { entry = entry; «data» = bytes })

-- the first command that waits, once all of its data has come
abbrev pub first_ready : Option WaitingCommand → List (Option Transfer) → Option Execution
first_ready None transfers = None
first_ready (Some first) transfers = execution_of first.entry (data_for first.wanted first transfers)

abbrev pub waiting_ready : ConnectionState → Option Execution
waiting_ready s = first_ready (first_of s.commands) s.receiver.expected.transfers

-- behind the end none is
abbrev pub ready : ConnectionState → Option Execution
ready s = if is_ended s.phase then None else waiting_ready s

-- all of its data; none, where no command is ready
abbrev pub data_of : Option Execution → List ℕ
data_of None = []
data_of (Some execution) = execution.data

-- where one that waits is ready, the receiver is between PDUs
abbrev pub IsQuiet : ConnectionState → Type 0
IsQuiet s = (execution : Execution) → waiting_ready s ≡ Some execution → IsBetween s.receiver

-- it goes to whoever executes it, its R2T with it, and data is asked for another
abbrev pub let_go : Option WaitingCommand → ReceiverState → ReceiverState
let_go None r = r
let_go (Some first) r = forgetting (identifier_of first.entry) r

abbrev pub with_started : ConnectionState → ConnectionState
with_started s = record s { receiver = let_go (first_of s.commands) s.receiver; commands = started s.commands }

abbrev pub gone : ConnectionState → ConnectionState × List ℕ
gone s = looked (with_started s)

-- ---- completions

-- Connect succeeded: the queue is set up, with so much data in a capsule at most
abbrev pub connected : Queue → ℕ → ConnectionState → ConnectionState
connected queue in_capsule s = record s { queue = queue; receiver = awaiting in_capsule s.receiver }

-- a command's data, where there is some, goes before its completion
abbrev pub data_sent : ℕ → ℕ → List ℕ → List ℕ
data_sent alignment command [] = []
data_sent alignment command (byte ∷ bytes) = c2h_data alignment command (byte ∷ bytes)

-- a command that is executed is completed; of another, and behind the end, nothing is sent
abbrev pub completed_open : ℕ → ℕ → Outcome → List ℕ → ConnectionState → ConnectionState × List ℕ
completed_open alignment command outcome bytes s =
    if is_running command s.commands then
    (let a = answered command outcome (record s { commands = without command s.commands }) in
    (a.0, data_sent alignment command bytes ++ a.1))
    else (s, [])

abbrev pub completed_in : Phase → ℕ → Outcome → List ℕ → ConnectionState → ConnectionState × List ℕ
completed_in Initializing command outcome bytes s = (s, [])
completed_in (Open alignment) command outcome bytes s = completed_open alignment command outcome bytes s
completed_in Ended command outcome bytes s = (s, [])

abbrev pub completed : ℕ → Outcome → List ℕ → ConnectionState → ConnectionState × List ℕ
completed command outcome bytes s = completed_in s.phase command outcome bytes s
