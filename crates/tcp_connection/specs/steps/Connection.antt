-- What holds of connections.
use Rattle.std.specs.Prelude.{◌≤◌, ◌<◌}
use Rattle.tcp_connection.specs.declared.state.ConnectionState.{ConnectionState}
use Rattle.tcp_connection.specs.Executing.{IsQuiet}

-- the queue has entries, and no more than there may be, and the receiver is between PDUs where a command that waited is ready
pub record IsConnection (s : ConnectionState) : Type 0 where
  pub some : 0 < s.queue.entries
  pub most : s.queue.entries ≤ 128
  pub quiet : IsQuiet s
