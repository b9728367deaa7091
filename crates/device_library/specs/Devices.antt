-- A device and its journal, in a file for which C makes the calls.
use Rattle.std.specs.Prelude.{◌≡◌, []}
use Rattle.stored_file.specs.File.{FileState}
use Rattle.device_meaning.specs.State.{State}
use Rattle.device_serve.specs.declared.kept.KeptDevice.{KeptDevice}
use Rattle.durable_device.specs.Kept.{IsKept}
use Rattle.durable_device.specs.declared.durable_device.DurableDevice.{DurableDevice}
use Rattle.durable_machine.specs.Seals.{events_of}
use Rattle.durable_machine.specs.declared.in_file.InFile.{InFile}
use Rattle.durable_machine.specs.declared.journal.Journal.{Journal}
use Rattle.handed_file.specs.declared.handed_file.HandedFile.{HandedFile}
use Rattle.device_library.specs.Files.{promised_of}

-- ---- as it is opened

abbrev pub state_of : DurableDevice HandedFile → State
state_of device = device.store.machine

abbrev pub journal_of : DurableDevice HandedFile → Journal HandedFile
journal_of device = device.store.events.journal

-- ---- as it is served

abbrev pub state_in : KeptDevice (InFile HandedFile) → State
state_in device = device.device.value

abbrev pub journal_in : KeptDevice (InFile HandedFile) → Journal HandedFile
journal_in device = device.events.journal

-- what is known of the file once C has made each call that it was handed, as long as none was refused
abbrev pub promised_in : KeptDevice (InFile HandedFile) → FileState
promised_in device = promised_of (journal_in device).file

-- all that was done is kept once C has made the calls that it was handed, and nothing waits for a commit
pub record IsCommitted (device : KeptDevice (InFile HandedFile)) : Type 0 where
  pub kept : IsKept (state_in device) (journal_in device).gate (promised_in device)
  pub none : events_of device.events.waiting ≡ []
