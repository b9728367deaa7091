-- The places that there are.
use Rattle.std.specs.Prelude.{◌≡◌, length}
use Rattle.tcp_target.specs.Queues.{QueuesState}

pub record HasPlaces (s : QueuesState) : Type 0 where
  pub all : length s.places ≡ 40
