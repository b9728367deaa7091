-- What a trace says of the file that keeps the device.
use Rattle.std.specs.Prelude.{ℕ, Bool, true, false, ◌&&◌, List, [], ◌∷◌, ◌++◌, drop, if◌then◌else◌, length, nat_eq, take}
use Rattle.std.specs.Cmp.Lexicographic.{pointwise}
use Rattle.stored_file.specs.File.{is_written}
use Rattle.stored_file.specs.Calls.{Call, Renewed, Replaced, Shortened, Synced, Written, seen_behind}
use Rattle.tcp_loop.specs.Trace.{Trace}
use Rattle.tcp_loop.specs.declared.operation.Answer.{Answer}
use Rattle.tcp_loop.specs.declared.operation.Answer.TheVariants.{Done}
use Rattle.tcp_loop.specs.declared.operation.Operation.{Operation}
use Rattle.tcp_loop.specs.declared.operation.Operation.TheVariants.{Create, Discard, Fsync, Ftruncate, Pwrite, Rename, SyncFolder}
use Rattle.tcp_loop.specs.declared.operation.Which.TheVariants.{Beside, Held}

abbrev pub is_done : Answer → Bool
is_done Done = true
is_done _ = false

-- ---- the file beside, which isn't in its place yet

-- its bytes, whether all of them are on the disk, and whether it was given the name
pub record NewFile : Type 0 where
  pub bytes : List ℕ
  pub is_synced : Bool
  pub is_named : Bool

abbrev pub no_file : NewFile
no_file = record { bytes = []; is_synced = false; is_named = false }

abbrev pub new_file_by : Operation → Answer → List ℕ → NewFile → NewFile
new_file_by Create answer bytes new = no_file
new_file_by Discard answer bytes new = no_file
new_file_by (Pwrite Beside «at») answer bytes new = record { bytes = is_written «at» bytes new.bytes; is_synced = false; is_named = false }
new_file_by (Fsync Beside) answer bytes new = record new { is_synced = is_done answer }
new_file_by Rename answer bytes new = record new { is_named = true }
-- from the next call for the file that is held on, that isn't the new file as it was
new_file_by (Pwrite Held «at») answer bytes new = record new { is_named = false }
new_file_by (Ftruncate len) answer bytes new = record new { is_named = false }
new_file_by SyncFolder answer bytes new = record new { is_named = false }
new_file_by _ answer bytes new = new

abbrev pub new_file : Trace → NewFile
new_file [] = no_file
new_file (m ∷ trace) = new_file_by m.asked m.answer m.carried (new_file trace)

-- ---- the calls for the file, as `stored_file` has them, of which the last stands first

-- bytes are written again where they are read; else they are written anew
abbrev pub is_there : ℕ → List ℕ → List ℕ → Bool
is_there at bytes seen = pointwise nat_eq bytes (take (length bytes) (drop at seen))

abbrev pub written : ℕ → List ℕ → Bool → List ℕ → Call
written at bytes done seen = if is_there at bytes seen then Renewed at bytes done else Written at bytes done

-- the name leads to either file until their folder is on the disk. Of a new file that isn't on the disk by then a crash leaves any bytes
abbrev pub named : NewFile → Bool → List Call
named new done =
    if new.is_synced then Replaced new.bytes done ∷ [] else Written 0 new.bytes false ∷ Shortened 0 false ∷ []

-- the calls that an operation is, of a file of which these bytes are read
abbrev pub calls_by : Operation → Bool → List ℕ → NewFile → List ℕ → List Call
calls_by (Pwrite Held «at») done bytes new seen = written «at» bytes done seen ∷ []
calls_by (Ftruncate len) done bytes new seen = Shortened len done ∷ []
calls_by (Fsync Held) done bytes new seen = Synced done ∷ []
calls_by Rename done bytes new seen = named new false
calls_by SyncFolder done bytes new seen = if new.is_named && done then named new true else []
calls_by _ done bytes new seen = []

-- what is read of the file after these
abbrev pub seen_after : List Call → List ℕ
seen_after [] = []
seen_after (call ∷ calls) = seen_behind call (seen_after calls)

-- the calls of a trace, after those by which the file was opened
abbrev pub calls_of : List Call → Trace → List Call
calls_of opened [] = opened
calls_of opened (m ∷ trace) =
    calls_by m.asked (is_done m.answer) m.carried (new_file trace) (seen_after (calls_of opened trace)) ++ calls_of opened trace
