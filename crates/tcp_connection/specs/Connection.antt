-- A connection, what it takes of a piece of the stream, and what it sends.
use Rattle.std.specs.Prelude.{ℕ, Bool, not, ◌&&◌, List, [], is_some, if◌then◌else◌}
use Rattle.tcp_connection.specs.Receiving.{fresh}
use Rattle.tcp_connection.specs.Receiving as receiving
use Rattle.tcp_connection.specs.declared.queue.Phase.TheVariants.{Initializing}
use Rattle.tcp_connection.specs.declared.queue.TheConstants.{UNCONNECTED}
use Rattle.tcp_connection.specs.declared.state.ConnectionState.{ConnectionState}
use Rattle.tcp_connection.specs.Commands.{none}
use Rattle.tcp_connection.specs.Dealing.{dealt}
use Rattle.tcp_connection.specs.Executing.{ready}
use Rattle.tcp_connection.specs.Queue.{is_ended}

-- a connection that has begun, and to which nothing has come
abbrev pub begun : ConnectionState
begun = record { receiver = fresh; commands = none; phase = Initializing; queue = UNCONNECTED; head = 0 }

-- bytes are taken unless it has ended, or a command is ready, which goes first
abbrev pub takes : ConnectionState → Bool
takes s = not (is_ended s.phase) && not (is_some (ready s))

-- the connection behind a piece of the stream, what it sends, and how many bytes of the piece were taken
pub record Step : Type 0 where
  pub state : ConnectionState
  pub sent : List ℕ
  pub count : ℕ

abbrev pub took : ConnectionState → List ℕ → Step
took s piece =
    let r = receiving.taken s.receiver piece in
    let d = dealt (record s { receiver = r.0 }) in record { state = d.0; sent = d.1; count = r.1 }

abbrev pub taken : ConnectionState → List ℕ → Step
taken s piece = if takes s then took s piece else record { state = s; sent = []; count = 0 }
