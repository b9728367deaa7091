-- The line that is added to a command file for a command (profile).
use Rattle.std.specs.Prelude.{◌≡◌, ◌==◌, ◌-◌, ◌⊎◌, ℕ, Bool, false, not, List, [], ◌∷◌, ◌++◌, length, map, slice_get, if◌then◌else◌, Option, Some, None, IfSome, Ok}
use Rattle.nvme_entry.specs.declared.command.Command.{Command}
use Rattle.device_events.specs.declared.event.Event.{Event}
use Rattle.device_events.specs.ToldEvents.{told_of}
use Rattle.event_text.specs.CommandFile.{events_in}
use Rattle.command_files.specs.Made.{Made, HasReplaced, then_made}
use Rattle.command_entry.specs.Identifiers.{identifiers, is_used}
use Rattle.command_entry.specs.Printed.{IsCommandLine}

-- a last byte that ends no line
abbrev pub lacks_end : Option ℕ → Bool
lacks_end (Some byte) = not (byte == 10)
lacks_end None = false

-- the bytes, with the end of their last line
abbrev pub ended : List ℕ → List ℕ
ended bytes = if lacks_end (slice_get bytes (length bytes - 1)) then bytes ++ 10 ∷ [] else bytes

-- the bytes of a file of this name, where they are told, or none, where there was no such file
abbrev pub AreOf : (List ℕ → Option (List ℕ)) → List ℕ → List ℕ → Type 0
AreOf contents path bytes = IfSome (contents path) (λ told. (bytes ≡ told) ⊎ (bytes ≡ []))

-- an identifier is the one that was asked for, or where none was, one that no submission of these to this queue has
abbrev pub IsChosen : Option ℕ → ℕ → List Event → ℕ → Type 0
IsChosen (Some asked) queue events cid = cid ≡ asked
IsChosen None queue events cid = is_used cid (identifiers queue events) ≡ false

-- a command file, whose events are read, gets one line more, of a command
pub record AddsCommand (before bytes : List ℕ) (queue : ℕ) (asked : Option ℕ) (command : Command) (input : List ℕ) : Type 0 where
  pub events : List Event
  pub cid : ℕ
  pub line : List ℕ
  pub read : events_in before ≡ Ok (map told_of events)
  pub chosen : IsChosen asked queue events cid
  pub is : IsCommandLine line queue cid command input
  pub file : bytes ≡ ended before ++ line

-- just one file is made, with this name: what stood there, and the line of a command
pub record AddsLine (path : List ℕ) (queue : ℕ) (asked : Option ℕ) (command : Command) (input : List ℕ)
    (old new : Option (List Made)) (contents after : List ℕ → Option (List ℕ)) : Type 0 where
  pub before : List ℕ
  pub bytes : List ℕ
  pub known : AreOf contents path before
  pub adds : AddsCommand before bytes queue asked command input
  pub made : new ≡ then_made old path bytes
  pub replaced : HasReplaced path bytes contents after

-- the same for some command
pub record AddsEntry (path : List ℕ) (old new : Option (List Made)) (contents after : List ℕ → Option (List ℕ)) : Type 0 where
  pub queue : ℕ
  pub asked : Option ℕ
  pub command : Command
  pub input : List ℕ
  pub adds : AddsLine path queue asked command input old new contents after
