-- A file that a crash may leave, whatever came to the disk.
use Rattle.std.specs.Prelude.{ℕ, Bool, true, false, ◌&&◌, ◌+◌, List, [], ◌∷◌, length, nat_le, take}
use Rattle.stored_file.specs.File.{is_written}
use Rattle.stored_file.specs.Calls.{Call}
use Rattle.stored_file.specs.Calls as call

-- all that was written by these calls, of which the last stands first,
abbrev pub synced_of : List Call → List ℕ
synced_of [] = []
synced_of (call.Opened bytes ∷ calls) = bytes
synced_of (call.Written «at» bytes done ∷ calls) = is_written «at» bytes (synced_of calls)
synced_of (call.Renewed «at» bytes done ∷ calls) = is_written «at» bytes (synced_of calls)
synced_of (call.Shortened len done ∷ calls) = take len (synced_of calls)
synced_of (call.Synced done ∷ calls) = synced_of calls
synced_of (call.Replaced bytes done ∷ calls) = bytes
synced_of (call.NotReplaced ∷ calls) = synced_of calls
synced_of (call.Refused ∷ calls) = synced_of calls

-- or nothing of it since the last sync
abbrev pub left_of : List Call → List ℕ
left_of [] = []
left_of (call.Opened bytes ∷ calls) = bytes
left_of (call.Written «at» bytes done ∷ calls) = left_of calls
left_of (call.Renewed «at» bytes done ∷ calls) = left_of calls
left_of (call.Shortened len done ∷ calls) = left_of calls
left_of (call.Synced true ∷ calls) = synced_of calls
left_of (call.Synced false ∷ calls) = left_of calls
left_of (call.Replaced bytes true ∷ calls) = bytes
left_of (call.Replaced bytes false ∷ calls) = left_of calls
left_of (call.NotReplaced ∷ calls) = left_of calls
left_of (call.Refused ∷ calls) = left_of calls

-- was it long enough, each time that bytes were written again?
abbrev pub each_is_long : List Call → Bool
each_is_long [] = true
each_is_long (call.Renewed «at» bytes done ∷ calls) = nat_le («at» + length bytes) (length (left_of calls)) && each_is_long calls
each_is_long (c ∷ calls) = each_is_long calls
