-- An entry that was handed to the device.
use Rattle.std.specs.Prelude.{ℕ, ◌≡◌, ◌≤◌, List, length}
use Rattle.device_events.specs.declared.reply.Reply.{Reply}
use Rattle.device_meaning.specs.State.{State}
use Rattle.runner.specs.Taken.{HasTaken}
use Rattle.tcp_pdus.specs.declared.sent.TheConstants.{MOST_DATA}
use Rattle.tcp_target.specs.Events.{handed_over}
use Rattle.tcp_target.specs.Target.{TargetState}
use Rattle.tcp_device.specs.Served.{completed_by}

-- the device gave this reply, with these bytes, and its command was completed if it is one at once
pub record Hands (entry input : List ℕ) (number : ℕ) (device device' : State) (target target' : TargetState) (reply : Reply) : Type 0 where
  pub bytes : List ℕ
  pub taken : HasTaken number entry input device device' (record { reply = reply; bytes = bytes })
  pub few : length bytes ≤ MOST_DATA
  pub completed : target' ≡ completed_by reply bytes number entry (handed_over number target)
