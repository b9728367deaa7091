-- Room for the commands without a completion, and how those that wait are kept.
use Rattle.std.specs.Prelude.{ℕ, Bool, true, not, ◌&&◌, ◌≡◌, ◌≤◌, ◌+◌, List, [], ◌∷◌, length, Option, Some, None, is_some, Vec, vec_capacity, if◌then◌else◌}
use Rattle.std.specs.List.{All}
use Rattle.std.specs.declared.alloc.Global.{Global}
use Rattle.tcp_pdus.specs.Direction.{identifier_of}
use Rattle.tcp_connection.specs.Transfers.{Transfer, data_of_command, has_transfer}
use Rattle.tcp_connection.specs.declared.waiting.KeptCommand.{KeptCommand}
use Rattle.tcp_connection.specs.declared.waiting.WaitingEntry.{WaitingEntry}
use Rattle.tcp_connection.specs.Commands.{WaitingCommand}

-- a command that waits
abbrev pub waiting_as : KeptCommand → WaitingCommand
waiting_as kept = record { entry = kept.command.entry; «data» = kept.data.items; wanted = kept.command.wanted }

abbrev pub waiting_of : List KeptCommand → List WaitingCommand
waiting_of [] = []
waiting_of (first ∷ rest) = waiting_as first ∷ waiting_of rest

-- what there is of one beside its data, and its data
abbrev pub entry_of : WaitingCommand → WaitingEntry
entry_of command = record { entry = command.entry; wanted = command.wanted }

abbrev pub data_in : Option WaitingCommand → List ℕ
data_in None = []
data_in (Some command) = command.data

-- it wants data by an R2T, and none is under way for it
abbrev pub is_unasked_entry : List (Option Transfer) → WaitingEntry → Bool
is_unasked_entry transfers command = is_some command.wanted && not (has_transfer (identifier_of command.entry) transfers)

-- all data has come that a command wants by an R2T
abbrev pub has_come : ℕ → List (Option Transfer) → Option ℕ → Bool
has_come command transfers None = true
has_come command transfers (Some wanted) = is_some (data_of_command command transfers)

-- its entry then
abbrev pub entry_once_come : WaitingEntry → List (Option Transfer) → Option (List ℕ)
entry_once_come command transfers =
    if has_come (identifier_of command.entry) transfers command.wanted then Some command.entry else None

-- room for the data in a capsule, where there is none
pub record IsRoom (room : Vec ℕ Global) : Type 0 where
  pub empty : room.items ≡ []
  pub capacity : 8192 ≤ vec_capacity room

-- as many rooms as commands may wait
pub record MakesRooms (rooms : Vec (Vec ℕ Global) Global) : Type 0 where
  pub count : length rooms.items ≡ 128
  pub capacity : 128 ≤ vec_capacity rooms
  pub all : All IsRoom rooms.items

-- the data of a command that waits is in a room
abbrev pub IsInRoom : KeptCommand → Type 0
IsInRoom kept = 8192 ≤ vec_capacity kept.data

-- each command that may wait has a room, where it does or where it doesn't
pub record HasRooms (kept : Vec KeptCommand Global) (rooms : Vec (Vec ℕ Global) Global) : Type 0 where
  pub most : 128 ≤ vec_capacity kept
  pub capacity : 128 ≤ vec_capacity rooms
  pub count : length kept.items + length rooms.items ≡ 128
  pub inside : All IsInRoom kept.items
  pub all : All IsRoom rooms.items

-- there is room for the most that there can be, and there are no more
pub record HasRoom (those : Vec ℕ Global) (waiting : List WaitingCommand) : Type 0 where
  pub running : 128 ≤ vec_capacity those
  pub most : length those.items + length waiting ≤ 128
