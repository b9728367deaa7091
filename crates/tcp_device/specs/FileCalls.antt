-- The calls for a file, as a loop makes them.
use Rattle.std.specs.Prelude.{List, ℕ, [], ◌∷◌, map, Option, Some, None}
use Rattle.handed_file.specs.Handed.{made_calls, waiting}
use Rattle.handed_file.specs.Handing.{call_bytes, done_call}
use Rattle.handed_file.specs.declared.handed_file.FileCall.{FileCall}
use Rattle.handed_file.specs.declared.handed_file.FileCall.TheVariants as handed
use Rattle.handed_file.specs.declared.handed_file.HandedFile.{HandedFile}
use Rattle.tcp_loop.specs.Keeping.{Keeping}
use Rattle.tcp_loop.specs.declared.target.Call.{Call}
use Rattle.tcp_loop.specs.declared.target.Call.TheVariants.{Renew, Replace, Shorten, Sync, Want, Write}

-- a call without its bytes
abbrev pub call_of : FileCall → Call
call_of (handed.Write «at» bytes) = Write «at»
call_of (handed.Renew «at» bytes) = Renew «at»
call_of (handed.Shorten len) = Shorten len
call_of handed.Sync = Sync
call_of (handed.Replace bytes) = Replace
call_of (handed.Want bytes) = Want

-- the next one of some calls, and its bytes
abbrev pub next_of : List FileCall → Option Call
next_of [] = None
next_of (call ∷ calls) = Some (call_of call)

abbrev pub next_bytes : List FileCall → List ℕ
next_bytes [] = []
next_bytes (call ∷ calls) = call_bytes call

-- what was told as done of a file, and what waits
abbrev pub keeping_of : HandedFile → Keeping
keeping_of file = record {
  made = made_calls file;
  waits = map done_call (waiting file);
  bytes = next_bytes (waiting file);
}
