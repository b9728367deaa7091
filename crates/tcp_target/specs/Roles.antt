-- What connections are for (NVMe Base 2.0, 6.3: each queue has a connection of its own).
use Rattle.std.specs.Prelude.{ℕ, Bool, false, ◌==◌, ◌&&◌, if◌then◌else◌}
use Rattle.tcp_target.specs.declared.connected.Connected.{Connected}
use Rattle.tcp_target.specs.declared.role.Role.{Role}
use Rattle.tcp_target.specs.declared.role.Role.TheVariants.{Unconnected, Admin, Io, Ended}

-- what a Connect gives: QID 0 is the admin queue's
abbrev pub role_of : Connected → Role
role_of c = if c.queue.id == 0 then Admin c.controller else Io c.controller c.queue.id

-- it is this I/O queue of this controller
abbrev pub is_queue_of : ℕ → ℕ → Role → Bool
is_queue_of id wanted Unconnected = false
is_queue_of id wanted (Admin controller) = false
is_queue_of id wanted Ended = false
is_queue_of id wanted (Io controller queue) = controller == id && queue == wanted

-- a controller that isn't ready has no I/O queues: their connections are to be closed
abbrev pub without_io : ℕ → Role → Role
without_io id Unconnected = Unconnected
without_io id (Admin controller) = Admin controller
without_io id (Io controller queue) = if controller == id then Ended else Io controller queue
without_io id Ended = Ended

-- one that has ended has no admin queue either
abbrev pub without : ℕ → Role → Role
without id Unconnected = Unconnected
without id (Admin controller) = if controller == id then Ended else Admin controller
without id (Io controller queue) = if controller == id then Ended else Io controller queue
without id Ended = Ended
