-- What is saved of a device's journal.
use Rattle.std.specs.Prelude.{◌≡◌, ℕ, List, ◌++◌}
use Rattle.device_meaning.specs.State.{State}
use Rattle.durable_machine.specs.Files.{IsFront}
use Rattle.durable_machine.specs.Journal.{closed_gate}
use Rattle.durable_machine.specs.Salvage.{IsSalvaged}
use Rattle.durable_device.specs.Kept.{StandsFor}
use Rattle.durable_device.specs.Machine.{IsDeviceBase, next_state}

-- the bytes are a base of this device, in whole sectors, and a closed gate after it: so they stand for the device, by the base alone
pub record AreBaseAlone (bytes : List ℕ) (device : State) : Type 0 where
  pub front : List ℕ
  pub begins : IsFront IsDeviceBase next_state front device
  pub room : List ℕ
  pub parts : bytes ≡ front ++ (closed_gate ++ room)
  pub stand : StandsFor bytes device

-- a journal of these bytes begins with so many whole batches, which end here; so many stand whole after that, and are left out. The new
-- file stands for the device after the first ones
pub record IsSalvageOf (bytes : List ℕ) (end whole readable : ℕ) (new : List ℕ) : Type 0 where
  pub device : State
  pub salvaged : IsSalvaged IsDeviceBase next_state end whole readable bytes device
  pub base : AreBaseAlone new device
