-- Command files (profile): a list of events as text, one on a line.
use Rattle.std.specs.Prelude.{◌≡◌, ℕ, Bool, ◌+◌, ◌^◌, nat_lt, length, List, [], ◌∷◌, Option, Some, None, option_and_then, option_map, Result, Ok, Err, codes, if◌then◌else◌}
use Rattle.std.specs.List.{list_all}
use Rattle.std.specs.Char.{is_ascii}
use Rattle.std.specs.Str.{bytes_eq}
use Rattle.std.specs.Str.Lines.{lines}
use Rattle.std.specs.Result.{result_ok}
use Rattle.hex.specs.Hex.{decode_of, decode_sized}
use Rattle.common_definitions.specs.Below.{below}
use Rattle.common_definitions.specs.Readings.{with_front}
use Rattle.zone_state.specs.Words.{fault_word}
use Rattle.zone_state.specs.declared.state.FaultState.{FaultState}
use Rattle.zone_state.specs.declared.state.FaultState.TheVariants.{ReadOnly, Offline}
use Rattle.text_lines.specs.Cut.{uncommented}
use Rattle.text_lines.specs.Number.{decimal_of}
use Rattle.device_events.specs.declared.event.Event.{Event}
use Rattle.device_events.specs.ToldEvents.{ToldEvent, Submitted, Turned, Faulted, told_of}
use Rattle.event_text.specs.declared.command_file.EventFault.{EventFault}
use Rattle.event_text.specs.declared.command_file.EventFault.TheVariants as event_fault
use Rattle.event_text.specs.declared.command_file.ParseFault.{ParseFault}
use Rattle.event_text.specs.declared.command_file.ParseFault.TheVariants.{Line, Memory}
use Rattle.text_lines.specs.Texts.{one_of, two_of}
use Rattle.event_text.specs.Words.{words_of, two_or_three_of}

-- a submission, where its queue, its entry and the data beside it are each read
abbrev pub submission : Option ℕ → Option (List ℕ) → Option (List ℕ) → Option ToldEvent
submission (Some queue) (Some entry) (Some input) = Some (Submitted queue entry input)
submission _ _ _ = None

-- the submission that the words behind `submit` tell: a queue, an entry of 64 bytes and the data beside it, which may be left out
abbrev pub submission_of : List (List ℕ) → Option ToldEvent
submission_of words = option_and_then
    (λ w. submission (option_and_then (below (2 ^ 16)) (decimal_of w.0)) (result_ok (decode_sized w.1 64)) (result_ok (decode_of w.2)))
    (two_or_three_of words)

-- the turn of a run that the words behind `turn` tell
abbrev pub turn_of : List (List ℕ) → Option ToldEvent
turn_of words = option_and_then (λ word. option_map Turned (option_and_then (below (2 ^ 8)) (decimal_of word))) (one_of words)

-- the state of a fault that a word names
abbrev pub state_named : List ℕ → Option FaultState
state_named word =
    if bytes_eq word (fault_word ReadOnly) then Some ReadOnly else (if bytes_eq word (fault_word Offline) then Some Offline else None)

-- the fault of a zone, where the zone and the state that it leads to are each read
abbrev pub fault_told : Option ℕ → Option FaultState → Option ToldEvent
fault_told (Some zone) (Some state) = Some (Faulted zone state)
fault_told _ _ = None

-- the fault that the words behind `fault` tell
abbrev pub fault_of : List (List ℕ) → Option ToldEvent
fault_of words = option_and_then (λ w. fault_told (decimal_of w.0) (state_named w.1)) (two_of words)

-- the event that a word names and the words behind it describe
abbrev pub event_named : List ℕ → List (List ℕ) → Option ToldEvent
event_named name words =
    if bytes_eq name (codes "submit") then submission_of words
    else (if bytes_eq name (codes "turn") then turn_of words else (if bytes_eq name (codes "fault") then fault_of words else None))

-- what words tell: no words, nothing; words that tell no event are refused
abbrev pub words_told : List (List ℕ) → Option (Option ToldEvent)
words_told [] = Some None
words_told (name ∷ words) = option_map Some (event_named name words)

-- what a line tells: a byte that is not ASCII refuses it, in its comment too; a `;` begins a comment
abbrev pub line_told : List ℕ → Option (Option ToldEvent)
line_told line = if list_all is_ascii line then words_told (words_of (uncommented line)) else None

-- what a line of this number tells, and the lines behind it: a line that is refused decides
abbrev pub line_before : ℕ → Option (Option ToldEvent) → Result (List ToldEvent) ℕ → Result (List ToldEvent) ℕ
line_before number None later = Err number
line_before number (Some None) later = later
line_before number (Some (Some first)) later = with_front (first ∷ []) later

-- the events of lines that are counted from a number on, or the number of the lowest that is refused
abbrev pub events_from : ℕ → List (List ℕ) → Result (List ToldEvent) ℕ
events_from number [] = Ok []
events_from number (line ∷ rest) = line_before number (line_told line) (events_from (number + 1) rest)

-- the events of a file, or its lowest line that is refused
abbrev pub events_in : List ℕ → Result (List ToldEvent) ℕ
events_in file = events_from 1 (lines file)

-- a line has words, besides its comment
abbrev pub has_words : List ℕ → Bool
has_words line = nat_lt 0 (length (words_of (uncommented line)))

-- the numbers of the lines that have words, of lines that are counted from a number on
abbrev pub worded_from : ℕ → List (List ℕ) → List ℕ
worded_from number [] = []
worded_from number (line ∷ rest) =
    if has_words line then number ∷ worded_from (number + 1) rest else worded_from (number + 1) rest

-- the numbers of the lines of a file that have words, the first line being 1
abbrev pub worded_lines : List ℕ → List ℕ
worded_lines file = worded_from 1 (lines file)

-- the line that a fault tells; none where memory ran out
abbrev pub refused_line : ParseFault → Option ℕ
refused_line (Line number fault) = Some number
refused_line Memory = None

-- words or a line that are refused have no meaning, or memory ran out
abbrev pub IsRefused : {X : Type 0} → EventFault → Option X → Type 0
IsRefused (event_fault.Refused fault) meant = meant ≡ None
IsRefused event_fault.Memory meant = Unit {0}

-- what a line tells is given, or it is refused
abbrev pub GivesLine : Result (Option Event) EventFault → Option (Option ToldEvent) → Type 0
GivesLine (Ok event) meant = meant ≡ Some (option_map told_of event)
GivesLine (Err error) meant = IsRefused error meant
