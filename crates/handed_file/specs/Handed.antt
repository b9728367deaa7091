-- A file for which a host makes the calls, as others see it.
use Rattle.std.specs.Prelude.{Bool, List, map}
use Rattle.stored_file.specs.File.{FileState}
use Rattle.stored_file.specs.Calls as calls
use Rattle.stored_file.specs.Calls.{Call}
use Rattle.durable_device.specs.Kept.{MayBeLeft}
use Rattle.handed_file.specs.Handing.{done_call, has_refused, settles}
use Rattle.handed_file.specs.declared.handed_file.FileCall.{FileCall}
use Rattle.handed_file.specs.declared.handed_file.HandedFile.{HandedFile}

-- what is known of a file behind these calls, of which the last stands first: what was read of it is on the disk, but for what an earlier
-- program did last
abbrev pub told_of : List Call → FileState
told_of = calls.told_of MayBeLeft

-- each call, as it was answered, of which the last stands first
abbrev pub noted : HandedFile → List Call
noted file = file.notes.calls

-- each call that the host told as done, of which the last stands first
abbrev pub made_calls : HandedFile → List Call
made_calls file = file.made.calls

-- those that it is to make, in order
abbrev pub waiting : HandedFile → List FileCall
waiting file = file.calls.items

-- these, once they are done
abbrev pub waits : HandedFile → List Call
waits file = map done_call (waiting file)

-- what is known of the file once they are done, and what the host told until now
abbrev pub told : HandedFile → FileState
told file = record (told_of (noted file)) { made = made_calls file }

-- has the host told each call as done, and was none refused?
abbrev pub is_settled : HandedFile → Bool
is_settled file = settles (waiting file) (has_refused (noted file))
