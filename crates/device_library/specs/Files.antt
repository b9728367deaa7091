-- A file for which C makes the calls, as it is asked about and told, of a device and of a target alike.
use Rattle.std.specs.Prelude.{ℕ, Bool, true, false, ◌≡◌, List, [], ◌∷◌, length, drop, Option, Some, None}
use Rattle.std.specs.Option.{option_map_or}
use Rattle.stored_file.specs.File.{FileState}
use Rattle.stored_file.specs.Calls.{Call}
use Rattle.handed_file.specs.Handed.{made_calls, noted, told, told_of, waiting}
use Rattle.handed_file.specs.Handing.{call_bytes, call_kind, call_place, done_call}
use Rattle.handed_file.specs.declared.handed_file.FileCall.{FileCall}
use Rattle.handed_file.specs.declared.handed_file.HandedFile.{HandedFile}
use Rattle.device_library.specs.Bytes.{IsFront}
use Rattle.device_library.specs.declared.kind.Question.{Question}
use Rattle.device_library.specs.declared.kind.Question.TheVariants as question

-- what is known of a file once C has made each call that it was handed, as long as none was refused
abbrev pub promised_of : HandedFile → FileState
promised_of file = told file

-- what is known of a file by calls that C told as done
abbrev pub known_by : List Call → FileState
known_by calls = record (told_of calls) { made = calls }

abbrev pub told_by : HandedFile → FileState
told_by file = known_by (made_calls file)

-- the call that C is to make next: none where all are done, or the file has to be opened again
abbrev pub next_of : Bool → List FileCall → Option FileCall
next_of true calls = None
next_of false [] = None
next_of false (call ∷ calls) = Some call

-- what C is told of it; 0, or no bytes, where it is to make none
abbrev pub TellsNext : Question → Option FileCall → ℕ → List ℕ → List ℕ → ℕ → Type 0
TellsNext question.Next call from before after answer = (answer ≡ option_map_or call_kind call 0) × (after ≡ before)
TellsNext question.Place call from before after answer = (answer ≡ option_map_or call_place call 0) × (after ≡ before)
TellsNext question.Size call from before after answer = (answer ≡ length (option_map_or call_bytes call [])) × (after ≡ before)
TellsNext question.Bytes call from before after answer = IsFront (drop from (option_map_or call_bytes call [])) before after answer

-- the next call is noted as done, and it was answered so before
pub record IsToldDone (old new : HandedFile) : Type 0 where
  pub done : (call : FileCall) (rest : List FileCall) → waiting old ≡ call ∷ rest
      → (waiting new ≡ rest) × (made_calls new ≡ done_call call ∷ made_calls old)
  pub same : noted new ≡ noted old
