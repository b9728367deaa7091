-- The calls that a host is to make for a file, and those that it told as made.
use Rattle.std.specs.Prelude.{ℕ, ◌≡◌, Bool, true, false, not, ◌&&◌, List, [], ◌∷◌, drop, length, map, nat_eq, reverse, take}
use Rattle.std.specs.Cmp.Lexicographic.{pointwise}
use Rattle.stored_file.specs.Calls.{Call}
use Rattle.stored_file.specs.Calls as call
use Rattle.durable_device.specs.Kept.{MayBeLeft}
use Rattle.handed_file.specs.declared.handed_file.FileCall.{FileCall}
use Rattle.handed_file.specs.declared.handed_file.FileCall.TheVariants.{Write, Renew, Shorten, Sync, Replace, Want}

-- a call that is done
abbrev pub done_call : FileCall → Call
done_call (Write «at» bytes) = call.Written «at» bytes.items true
done_call (Renew «at» bytes) = call.Renewed «at» bytes.items true
done_call (Shorten len) = call.Shortened len true
done_call Sync = call.Synced true
done_call (Replace bytes) = call.Replaced bytes.items true
done_call (Want bytes) = call.NotReplaced

-- calls that are done in order, of which the last stands first
abbrev pub all_done : List FileCall → List Call
all_done calls = reverse (map done_call calls)

-- those that the host was handed: not those that were refused
abbrev pub handed : List Call → List Call
handed [] = []
handed (call.Refused ∷ calls) = handed calls
handed (c ∷ calls) = c ∷ handed calls

-- was one refused?
abbrev pub has_refused : List Call → Bool
has_refused [] = false
has_refused (call.Refused ∷ calls) = true
has_refused (c ∷ calls) = has_refused calls

-- are all made that the host was handed, where it is so that one was refused?
abbrev pub settles : List FileCall → Bool → Bool
settles [] refused = not refused
settles (call ∷ calls) refused = false

-- ---- bytes that are written again

-- are these bytes there, of a file of which those are read?
abbrev pub is_there : ℕ → List ℕ → List ℕ → Bool
is_there at bytes seen = pointwise nat_eq bytes (take (length bytes) (drop at seen))

-- was each written again where it was read?
abbrev pub each_is_there : List Call → Bool
each_is_there [] = true
each_is_there (call.Renewed «at» bytes done ∷ calls) = is_there «at» bytes (call.told_of MayBeLeft calls).seen && each_is_there calls
each_is_there (c ∷ calls) = each_is_there calls

-- are the bytes there that a call writes again?
abbrev pub IsThere : FileCall → List ℕ → Type 0
IsThere (Renew «at» bytes) seen = is_there «at» bytes.items seen ≡ true
IsThere _ seen = Unit {0}

-- ---- a new file that is wanted

-- does a call say so?
abbrev pub is_want : FileCall → Bool
is_want (Write «at» bytes) = false
is_want (Renew «at» bytes) = false
is_want (Shorten len) = false
is_want Sync = false
is_want (Replace bytes) = false
is_want (Want bytes) = true

-- ---- what a host is told of a call

-- which it is
abbrev pub call_kind : FileCall → ℕ
call_kind (Write «at» bytes) = 1
call_kind (Renew «at» bytes) = 1
call_kind (Shorten len) = 2
call_kind Sync = 3
call_kind (Replace bytes) = 4
call_kind (Want bytes) = 5

-- at which offset it writes, or to which length it sets the file
abbrev pub call_place : FileCall → ℕ
call_place (Write «at» bytes) = «at»
call_place (Renew «at» bytes) = «at»
call_place (Shorten len) = len
call_place Sync = 0
call_place (Replace bytes) = 0
call_place (Want bytes) = 0

-- the bytes that it writes, or the new file has that wants room
abbrev pub call_bytes : FileCall → List ℕ
call_bytes (Write «at» bytes) = bytes.items
call_bytes (Renew «at» bytes) = bytes.items
call_bytes (Shorten len) = []
call_bytes Sync = []
call_bytes (Replace bytes) = bytes.items
call_bytes (Want bytes) = bytes.items
