-- What a device does that is served a stream of lines, over all its rounds (profile).
use Rattle.std.specs.Prelude.{ℕ, Bool, ◌≡◌, ◌++◌, List, [], map, Option, IfSome, Ok}
use Rattle.std.specs.Io.KnownBytes.{Appends}
use Rattle.stored_file.specs.File.{FileState}
use Rattle.device_events.specs.ToldEvents.{told_of}
use Rattle.device_events.specs.declared.event.Event.{Event}
use Rattle.device_meaning.specs.State.{State}
use Rattle.event_text.specs.CommandFile.{events_in}
use Rattle.event_text.specs.Lines.{reply_line}
use Rattle.device_serve.specs.EndingRuns.{EndsRuns}
use Rattle.device_serve.specs.LineStream.{Does, DoesLines, EndsLines, HasAnswered, StopsIn, StopsLines}
use Rattle.device_serve.specs.Rounds.{InRounds, ServesStream, Site}
use Rattle.device_serve.specs.declared.fault.ServeFault.{ServeFault}
use Rattle.device_serve.specs.declared.lines.LineCodec.{LineCodec}

-- nothing has come to a codec yet
pub record IsFirst (codec : LineCodec) : Type 0 where
  pub unended : codec.unended.items ≡ []
  pub count : codec.count ≡ 0

-- all that was left to read, where that is reported, is a command file. Its events were done, with turns after each where that is asked
-- for, and then the runs ended; and the lines of the replies were written, in order, and nothing else
pub record ServesLines (drains : Bool) (unread : Option (List ℕ)) (old new : State) (before after : Option (List ℕ)) : Type 0 where
  pub text : List ℕ
  pub all : IfSome unread (λ known. known ≡ text)
  pub events : List Event
  pub told : events_in text ≡ Ok (map told_of events)
  pub between : State
  pub then : List ℕ
  pub done : Does drains events old between (HasAnswered [] then)
  pub answers : List ℕ
  pub drained : EndsRuns reply_line between new then answers
  pub written : Appends before after answers

-- so it is with a stream of lines that is served
abbrev pub LinesAreServed : {D : Type 0} → (D → FileState) → (State → D → Type 0) → Type 0
LinesAreServed {D = D} told settled =
    (unread : Option (List ℕ)) (old new : Site LineCodec D) → IsFirst old.codec
    → ServesStream DoesLines told settled EndsLines unread old new
    → ServesLines old.codec.doer.drains unread old.state new.state old.written new.written

-- of a stream some bytes were served in rounds, and are answered, and for the next it stops. So it stops for all of them, whose lines are
-- counted from the first on
pub record StopsWhole (drains : Bool) (text : List ℕ) (left : Option (List ℕ)) (why : ServeFault) (old new : State) (late : List ℕ)
    (before then : Option (List ℕ)) : Type 0 where
  pub early : List ℕ
  pub written : Appends before then early
  pub stopped : StopsIn drains text 0 left why old new [] (early ++ late)

-- so it is with a stream of lines that stops
abbrev pub LinesStop : {D : Type 0} → (D → FileState) → (State → D → Type 0) → Type 0
LinesStop {D = D} told settled =
    (first next : List ℕ) (left : Option (List ℕ)) (old mid : Site LineCodec D) (new : LineCodec) (state : State) (late : List ℕ)
    (why : ServeFault) → IsFirst old.codec → InRounds DoesLines told settled first old mid
    → StopsLines mid.codec mid.state next left new state late why
    → StopsWhole old.codec.doer.drains (first ++ next) left why old.state state late old.written mid.written
