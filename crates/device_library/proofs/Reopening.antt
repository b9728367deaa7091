-- A journal that is opened.
use Rattle.stored_file.specs.File.{FileState}
use Rattle.device_meaning.specs.State.{State}
use Rattle.durable_device.specs.Kept.{KeepsRestarted, LeavesFound, StandsFor, StandsForIt}
use Rattle.durable_device.specs.Machine.{IsDeviceBase, next_state}
use Rattle.durable_machine.specs.Files.{KeepsState}
use Rattle.durable_machine.proofs.Restarting.{found_weaker}

-- a crash leaves the same device
pub reopened_keeps : (old opened : FileState) (device : State) → StandsForIt old.seen device → KeepsRestarted old opened → LeavesFound old opened (λ c. StandsFor c device)
reopened_keeps old opened device is moments =
    found_weaker IsDeviceBase next_state old opened (KeepsState IsDeviceBase next_state old.seen) (λ c. StandsFor c device) moments (λ c keeps. keeps device is.is)
