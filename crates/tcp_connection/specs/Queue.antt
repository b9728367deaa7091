-- The queues of a connection, and how far it is.
use Rattle.std.specs.Prelude.{Bool, true, false}
use Rattle.tcp_connection.specs.declared.queue.Phase.{Phase}
use Rattle.tcp_connection.specs.declared.queue.Phase.TheVariants.{Initializing, Open, Ended}

abbrev pub is_ended : Phase → Bool
is_ended Initializing = false
is_ended (Open alignment) = false
is_ended Ended = true
