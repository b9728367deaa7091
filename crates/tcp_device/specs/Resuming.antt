-- Runs that were kept.
use Rattle.std.specs.Prelude.{ℕ, ◌≡◌, Bool, not}
use Rattle.device_events.specs.declared.reply.Reply.{Reply}
use Rattle.durable_device.specs.Changing.{is_idle}
use Rattle.tcp_device.specs.Deeds.{DoesWith, Resumed}
use Rattle.tcp_device.specs.State.{ServedState}

-- a run was to go on of whose command no connection waits, and it is told whether there was one
pub record Resumes (run : ℕ) (old new : ServedState) (went : Bool) : Type 0 where
  pub reply : Reply
  pub does : DoesWith (Resumed run) old new reply
  pub told : went ≡ not (is_idle reply)
