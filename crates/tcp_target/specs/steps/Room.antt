-- Room for what is to be sent, behind what was sent.
use Rattle.std.specs.Prelude.{ℕ, ◌≤◌, ◌+◌, length, Vec, vec_capacity, vec_len}
use Rattle.std.specs.declared.alloc.Global.{Global}

-- at all times
pub record HasRoom (outgoing : Vec ℕ Global) (sent : ℕ) : Type 0 where
  pub room : 794624 ≤ vec_capacity outgoing
  pub within : sent ≤ length outgoing.items

-- where so many bytes more are to be added
pub record HasRoomFor (size : ℕ) (outgoing : Vec ℕ Global) (sent : ℕ) : Type 0 where
  pub at_all_times : HasRoom outgoing sent
  pub more : vec_len outgoing + size ≤ vec_capacity outgoing
