-- What holds of a device that is kept in a file.
use Rattle.std.specs.Prelude.{◌≡◌, Bool, false, ℕ, List, []}
use Rattle.stored_file.specs.File.{MayLeave}
use Rattle.device_meaning.specs.State.{State}
use Rattle.durable_device.specs.Kept.{IsCommittedBut, IsEither, StandsFor}
use Rattle.durable_machine.specs.Seals.{events_of}
use Rattle.durable_machine.specs.declared.in_file.InFile.{InFile}
use Rattle.handed_file.specs.Handed.{made_calls, noted, told, told_of, waits}
use Rattle.handed_file.specs.Handing.{has_refused}
use Rattle.handed_file.specs.Laws.{LeavesInTurn}
use Rattle.handed_file.specs.declared.handed_file.HandedFile.{HandedFile}
use Rattle.tcp_device.specs.declared.keeper.Keeper.{Keeper}

abbrev pub file_of : Keeper (InFile HandedFile) → HandedFile
file_of keeper = keeper.events.journal.file

-- the device was led from the one that the file stands for, once all calls are made, by the events that wait for a commit; and no call
-- was refused
pub record WillBeKept (keeper : Keeper (InFile HandedFile)) (device : State) : Type 0 where
  pub kept : IsCommittedBut (events_of keeper.events.waiting) device keeper.events.journal.gate (told (file_of keeper))
  pub none_refused : has_refused (noted (file_of keeper)) ≡ false

-- so it is as long as nothing failed
abbrev pub KeepsUnlessFailed : Bool → Keeper (InFile HandedFile) → State → Type 0
KeepsUnlessFailed failed keeper device = failed ≡ false → WillBeKept keeper device

-- while the calls are made that wait now, where none waited before and a crash left a device, a crash leaves that one or this one; and once
-- they are made, this one
pub record Commits (old new : Keeper (InFile HandedFile)) (device : State) : Type 0 where
  pub made : made_calls (file_of new) ≡ made_calls (file_of old)
  pub covers : (before : State) → waits (file_of old) ≡ []
      → ((c : List ℕ) → MayLeave (told_of (made_calls (file_of old))) c → StandsFor c before)
      → LeavesInTurn (IsEither before device) (λ c. StandsFor c device) (waits (file_of new)) (made_calls (file_of new))

-- a new file takes the place of the one that is held, or doesn't: a crash leaves what it might before, or this device; and once all calls
-- are made, this device
pub record Folds (old new : Keeper (InFile HandedFile)) (device : State) : Type 0 where
  pub made : made_calls (file_of new) ≡ made_calls (file_of old)
  pub covers : (before : State)
      → LeavesInTurn (IsEither before device) (λ c. StandsFor c device) (waits (file_of old)) (made_calls (file_of old))
      → LeavesInTurn (IsEither before device) (λ c. StandsFor c device) (waits (file_of new)) (made_calls (file_of new))
