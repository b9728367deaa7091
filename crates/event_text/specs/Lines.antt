-- The lines that replies are printed as (profile).
use Rattle.std.specs.Prelude.{ℕ, ◌≡◌, ◌==◌, if◌then◌else◌, List, [], ◌∷◌, ◌++◌, length, codes, Option}
use Rattle.std.specs.Fmt.{decimal}
use Rattle.hex.specs.Hex.{encode_lower}
use Rattle.device_events.specs.Printed.{Printed, Prints}
use Rattle.device_events.specs.Replies.{ReplyWithData}
use Rattle.device_events.specs.declared.reply.Reply.{Reply}
use Rattle.device_events.specs.declared.reply.Reply.TheVariants.{Complete, Pending, Idle, FaultTaken, FaultRefused}
use Rattle.event_text.specs.declared.lines.Lines.{Lines}

-- a space and the data, where there is any
abbrev pub data_text : List ℕ → List ℕ
data_text bytes = if length bytes == 0 then [] else 32 ∷ encode_lower bytes

-- a completion of these bytes, with its data
abbrev pub completion_text : ℕ → List ℕ → List ℕ → List ℕ
completion_text queue entry bytes = codes "cpl " ++ decimal queue ++ codes " " ++ encode_lower entry ++ data_text bytes

-- a reply without the end of its line
abbrev pub reply_text : Reply → List ℕ → List ℕ
reply_text (Complete queue entry length) bytes = completion_text queue entry bytes
reply_text (Pending run) bytes = codes "pending " ++ decimal run
reply_text Idle bytes = codes "idle"
reply_text FaultTaken bytes = codes "done"
reply_text FaultRefused bytes = codes "refused"

-- with the end of its line
abbrev pub line_text : Reply → List ℕ → List ℕ
line_text reply bytes = reply_text reply bytes ++ 10 ∷ []

-- the line of a reply and its data
abbrev pub reply_line : ReplyWithData → List ℕ
reply_line given = line_text given.reply given.bytes

-- the name of the writer of `Lines`, how many replies it refused, and what is printed there
abbrev pub printed_by : {W : Type 0} → (W → Option (List ℕ)) → Lines W → ℕ × Printed
printed_by contents lines = (lines.out.ghost_name, record { refusals = lines.refusals; bytes = contents lines.out.now })

-- the same writer; where it refused none, the lines of these replies were printed, in order, and nothing else
abbrev pub Took : ℕ × Printed → ℕ × Printed → List ReplyWithData → Type 0
Took old new replies = (new.0 ≡ old.0) × Prints reply_line old.1 new.1 replies
