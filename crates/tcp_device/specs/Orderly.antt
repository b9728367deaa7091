-- What a target before a device says of connections, so that its loop is fair to hosts.
use Rattle.std.specs.Prelude.{ℕ, ◌≡◌, Bool, not, nat_le, ◌||◌, ◌==◌, length, Option}
use Rattle.tcp_target.specs.Queues.{free_number, place_at}
use Rattle.tcp_device.specs.State.{ServedState}
use Rattle.tcp_loop.specs.Orderly.{IsOrderly}
use Rattle.tcp_device.specs.LoopMeaning.{in_memory, kept_in_file}

-- the number that the next connection gets
abbrev pub free_of : ServedState → Option ℕ
free_of s = free_number s.target.queues

-- is a connection there?
abbrev pub is_there : ℕ → ServedState → Bool
is_there number s = (place_at number s.target.queues).is_open

-- has the device still a command of one that was closed there? Of a place that there isn't it is so too
abbrev pub is_held : ℕ → ServedState → Bool
is_held number s = not ((place_at number s.target.queues).executing == 0) || nat_le (length s.target.queues.places) number

-- a connection is there from its beginning to its end, what is to be sent on it only grows until it is sent, and a number is free unless
-- a connection has it or it is held
pub record TargetsAreOrderly : Type 0 where
  pub of_file : IsOrderly kept_in_file free_of
  pub file_there : of_file.is_there ≡ is_there
  pub file_held : of_file.is_held ≡ is_held
  pub of_memory : IsOrderly in_memory free_of
  pub memory_there : of_memory.is_there ≡ is_there
  pub memory_held : of_memory.is_held ≡ is_held
