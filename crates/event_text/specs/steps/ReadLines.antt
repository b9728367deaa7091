-- What reading the words of an event and a line gives, and why they are refused.
use Rattle.std.specs.Prelude.{◌≡◌, ℕ, Option, Some, Result, Ok, Err}
use Rattle.hex.specs.declared.error.FromHexError.{FromHexError}
use Rattle.hex.specs.declared.error.FromHexError.TheVariants as digits
use Rattle.device_events.specs.declared.event.Event.{Event}
use Rattle.event_text.specs.declared.command_file.EventFault.{EventFault}
use Rattle.event_text.specs.declared.command_file.EventFault.TheVariants as event_fault
use Rattle.event_text.specs.declared.fault.LineFault.TheVariants as fault
use Rattle.device_events.specs.ToldEvents.{ToldEvent, told_of}
use Rattle.event_text.specs.CommandFile.{IsRefused}

-- why an entry of so many characters that spells no 64 bytes refuses its line
abbrev pub entry_fault : ℕ → FromHexError → EventFault
entry_fault characters digits.OutOfMemory = event_fault.Memory
entry_fault characters (digits.InvalidHexCharacter character before) = event_fault.Refused (fault.EntryDigit character before)
entry_fault characters _ = event_fault.Refused (fault.EntryLength characters)

-- why data of so many characters that spells no bytes refuses its line
abbrev pub data_fault : ℕ → FromHexError → EventFault
data_fault characters digits.OutOfMemory = event_fault.Memory
data_fault characters (digits.InvalidHexCharacter character before) = event_fault.Refused (fault.DataDigit character before)
data_fault characters _ = event_fault.Refused (fault.DataLength characters)

-- the event is given that the words tell, or they are refused
abbrev pub GivesEvent : Result Event EventFault → Option ToldEvent → Type 0
GivesEvent (Ok event) meant = meant ≡ Some (told_of event)
GivesEvent (Err error) meant = IsRefused error meant
