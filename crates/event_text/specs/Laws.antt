-- Laws of the events of a command file, and of the lines of replies (profile).
use Rattle.std.specs.Prelude.{◌≡◌, ℕ, ◌+◌, ◌-◌, ◌^◌, ◌<◌, ◌==◌, not, List, [], ◌∷◌, ◌++◌, length, map, slice_get, Option, Some, option_and_then, Result, Ok, Err, codes}
use Rattle.std.specs.Option.{option_flatten}
use Rattle.std.specs.List.{AllPass}
use Rattle.std.specs.Char.{is_ascii}
use Rattle.std.specs.Fmt.{decimal}
use Rattle.std.specs.Str.Lines.{lines}
use Rattle.common_definitions.specs.Bytes.{AreBytes}
use Rattle.zone_state.specs.Words.{fault_word}
use Rattle.zone_state.specs.declared.state.FaultState.{FaultState}
use Rattle.text_lines.specs.Laws.{AreBlanks}
use Rattle.device_events.specs.Replies.{ReplyWithData, data_length}
use Rattle.device_events.specs.declared.reply.Reply.{Reply}
use Rattle.device_events.specs.declared.reply.Reply.TheVariants as reply
use Rattle.device_events.specs.ToldEvents.{ToldEvent, Submitted, Turned, Faulted}
use Rattle.event_text.specs.CommandFile.{line_told, events_in, worded_lines}
use Rattle.event_text.specs.Lines.{reply_text}
use Rattle.event_text.specs.Submission.{submission_text}

-- the file, with the end of a line behind it
abbrev pub ended : List ℕ → List ℕ
ended file = file ++ 10 ∷ []

-- what two files tell, of which the first has so many lines: a refused line of the second is counted behind those
abbrev pub told_by_both : ℕ → Result (List ToldEvent) ℕ → Result (List ToldEvent) ℕ → Result (List ToldEvent) ℕ
told_by_both count (Err line) second = Err line
told_by_both count (Ok first) (Ok second) = Ok (first ++ second)
told_by_both count (Ok first) (Err line) = Err (count + line)

-- the events of two files joined at a line's end are those of both
abbrev pub EventsAreByLine : Type 0
EventsAreByLine =
    (first second : List ℕ)
    → events_in (ended first ++ second) ≡ told_by_both (length (lines (ended first))) (events_in (ended first)) (events_in second)

-- the event that the line of this number tells, the first line being 1
abbrev pub told_at : List ℕ → ℕ → Option ToldEvent
told_at file number = option_flatten (option_and_then line_told (slice_get (lines file) (number - 1)))

-- the events of a file that is read are those that its lines with words tell, in order
abbrev pub EventsHaveLines : Type 0
EventsHaveLines =
    (file : List ℕ) (events : List ToldEvent) → events_in file ≡ Ok events → map (told_at file) (worded_lines file) ≡ map Some events

-- what may stand at the end of a line: nothing, at the end of the file, else `\n` or `\r\n`
pub data LineEnd : Type 0 where
  EndOfFile : LineEnd
  Newline : LineEnd
  ReturnNewline : LineEnd

-- the bytes of a line's end
abbrev pub end_text : LineEnd → List ℕ
end_text EndOfFile = []
end_text Newline = 10 ∷ []
end_text ReturnNewline = 13 ∷ 10 ∷ []

-- a comment of ASCII, or none: `;` and whatever ASCII bytes stand behind it on the line
abbrev pub IsComment : List ℕ → Type 0
IsComment [] = Unit {0}
IsComment (first ∷ rest) = (first ≡ 59) × AllPass is_ascii rest × AllPass (λ byte. not (byte == 10)) rest

-- a line of blanks and a comment, of which either may be missing, makes no event
abbrev pub BlankLinesMakeNoEvent : Type 0
BlankLinesMakeNoEvent =
    (blanks comment : List ℕ) (end : LineEnd) → AreBlanks blanks → IsComment comment
    → events_in (blanks ++ comment ++ end_text end) ≡ Ok []

-- a comment behind a line changes nothing that the line tells
abbrev pub CommentsDontCount : Type 0
CommentsDontCount =
    (line comment : List ℕ) → IsComment comment → line_told (line ++ comment) ≡ line_told line

-- the line of a turn of a run
abbrev pub turn_text : ℕ → List ℕ
turn_text run = codes "turn " ++ decimal run

-- the line of a zone and the state that its fault leads to
abbrev pub fault_text : ℕ → FaultState → List ℕ
fault_text zone state = codes "fault " ++ decimal zone ++ codes " " ++ fault_word state

-- a line spelled for an event is read back as that event
abbrev pub ReadsBack : List ℕ → ToldEvent → Type 0
ReadsBack line event = (end : LineEnd) → events_in (line ++ end_text end) ≡ Ok (event ∷ [])

-- the line of a submission is read back as it
abbrev pub SubmissionsReadBack : Type 0
SubmissionsReadBack =
    (queue : ℕ) (entry input : List ℕ) → queue < 2 ^ 16 → length entry ≡ 64 → AreBytes entry → AreBytes input
    → ReadsBack (submission_text queue entry input) (Submitted queue entry input)

-- the line of a turn is read back as it
abbrev pub TurnsReadBack : Type 0
TurnsReadBack = (run : ℕ) → run < 2 ^ 8 → ReadsBack (turn_text run) (Turned run)

-- the line of a zone's fault is read back as it
abbrev pub FaultsReadBack : Type 0
FaultsReadBack = (zone : ℕ) (state : FaultState) → zone < 2 ^ 32 → ReadsBack (fault_text zone state) (Faulted zone state)

-- the numbers of a reply are of their types: 16 bits, 16 bytes (NVMe Base 2.0, 3.3.3.2), 8 bits
abbrev pub AreOfTypes : Reply → Type 0
AreOfTypes (reply.Complete queue entry size) = (queue < 2 ^ 16) × (length entry ≡ 16) × AreBytes entry
AreOfTypes (reply.Pending run) = run < 2 ^ 8
AreOfTypes reply.Idle = Unit {0}
AreOfTypes reply.FaultTaken = Unit {0}
AreOfTypes reply.FaultRefused = Unit {0}

-- a reply with bytes of data, as many as it tells
pub record IsReply (given : ReplyWithData) : Type 0 where
  pub numbers : AreOfTypes given.reply
  pub are_bytes : AreBytes given.bytes
  pub told : data_length given.reply ≡ length given.bytes

-- replies that are printed alike are the same, with the same data
abbrev pub LinesTellReplies : Type 0
LinesTellReplies =
    (a b : ReplyWithData) → IsReply a → IsReply b → reply_text a.reply a.bytes ≡ reply_text b.reply b.bytes → a ≡ b
