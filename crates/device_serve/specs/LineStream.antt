-- Lines of a command file that a device is served as they come, and the lines that answer them (profile).
use Rattle.std.specs.Prelude.{ℕ, Bool, true, false, ◌≡◌, ◌==◌, ◌+◌, ◌-◌, ◌^◌, ◌≤◌, ◌⊎◌, min, List, [], ◌∷◌, ◌++◌, count_by, flat_map, length, map, take, Option, Ok, Err}
use Rattle.std.specs.Io.KnownBytes.{IsAtEnd}
use Rattle.std.specs.Str.Lines.{lines}
use Rattle.nvme_entry.specs.declared.command.TheConstants.{MOST_TRANSFER}
use Rattle.device_events.specs.Replies.{ReplyWithData}
use Rattle.device_events.specs.ToldEvents.{told_of}
use Rattle.device_events.specs.declared.event.Event.{Event}
use Rattle.device_meaning.specs.Events.{HasServed}
use Rattle.device_meaning.specs.JoinedEvents.{HasServedAndDrained}
use Rattle.device_meaning.specs.Judging.{interval_judge}
use Rattle.device_meaning.specs.State.{State}
use Rattle.event_text.specs.CommandFile.{events_from, events_in}
use Rattle.event_text.specs.Lines.{reply_line}
use Rattle.device_serve.specs.EndingRuns.{EndsRuns, EndsSome}
use Rattle.device_serve.specs.declared.fault.ServeFault.{ServeFault}
use Rattle.device_serve.specs.declared.fault.ServeFault.TheVariants as fault
use Rattle.device_serve.specs.declared.lines.LineCodec.{LineCodec}

-- after what was answered before come the lines of these replies, in order, and nothing else
abbrev pub HasAnswered : List ℕ → List ℕ → List ReplyWithData → Type 0
HasAnswered before after replies = after ≡ before ++ flat_map reply_line replies

-- nothing is said of what answers
abbrev pub Untold : List ReplyWithData → Type 0
Untold replies = Unit {0}

-- ---- events, with turns after each

-- an event was done, and then turns of the lowest active run of then, until no run was left; and what follows was done then. These
-- are the replies to all of them, in order
pub record DrainsThen (follows : State → State → List ReplyWithData → Type 0) (e : Event) (old new : State)
    (replies : List ReplyWithData) : Type 0 where
  pub between : State
  pub first : List ReplyWithData
  pub later : List ReplyWithData
  pub drained : HasServedAndDrained interval_judge (e ∷ []) old between (λ given. given ≡ first)
  pub then : follows between new later
  pub in_order : replies ≡ first ++ later

-- events were done, one after another, each with these turns after it
abbrev pub EachDrained : List Event → State → State → List ReplyWithData → Type 0
EachDrained [] old new replies = (new ≡ old) × (replies ≡ [])
EachDrained (e ∷ events) old new replies = DrainsThen (EachDrained events) e old new replies

-- events were done so; `took` says of the replies that they were taken
pub record HasServedAndDrainedEach (events : List Event) (old new : State) (took : List ReplyWithData → Type 0) : Type 0 where
  pub replies : List ReplyWithData
  pub each : EachDrained events old new replies
  pub taken : took replies

-- events were done, where it is asked for with these turns after each
abbrev pub Does : Bool → List Event → State → State → (List ReplyWithData → Type 0) → Type 0
Does false events old new took = HasServed interval_judge events old new took
Does true events old new took = HasServedAndDrainedEach events old new took

-- an event was done, and that isn't answered; or it is, and the first of the turns after it were given, where these are asked for, all of
-- which are answered, or all but the last
pub data Begins (drains : Bool) (e : Event) (old new : State) (before after : List ℕ) : Type 0 where
  Unanswered : (done : HasServed interval_judge (e ∷ []) old new Untold) (silent : after ≡ before)
      → Begins drains e old new before after
  InTurns : (asked : drains ≡ true) (between : State) (then : List ℕ)
      (done : HasServed interval_judge (e ∷ []) old between (HasAnswered before then))
      (given : EndsSome reply_line between new then after) → Begins drains e old new before after

-- ---- lines

-- how many lines of a text have their end
abbrev pub ends_in : List ℕ → ℕ
ends_in text = count_by (λ byte. byte == 10) text

-- how many lines these are with those before them, where that is below the largest number of 64 bits
abbrev pub counted : ℕ → ℕ → ℕ
counted before count = min (before + count) (2 ^ 64 - 1)

-- each line of a text has its end: whatever follows it, its lines are the first, and those of what follows are the others
abbrev pub IsEnded : List ℕ → Type 0
IsEnded text = (follows : List ℕ) → lines (text ++ follows) ≡ lines text ++ lines follows

-- the events of the first so many lines of a text were done, and are answered
pub record ServesFirst (drains : Bool) (text : List ℕ) (count : ℕ) (old new : State) (before after : List ℕ) : Type 0 where
  pub within : count ≤ length (lines text)
  pub events : List Event
  pub told : events_from 1 (take count (lines text)) ≡ Ok (map told_of events)
  pub done : Does drains events old new (HasAnswered before after)

-- of the events of the first so many lines of a text all but the last were done, and are answered; the last was begun
pub record BeginsLast (drains : Bool) (text : List ℕ) (count : ℕ) (old new : State) (before after : List ℕ) : Type 0 where
  pub within : count ≤ length (lines text)
  pub events : List Event
  pub last : Event
  pub told : events_from 1 (take count (lines text)) ≡ Ok (map told_of (events ++ last ∷ []))
  pub between : State
  pub then : List ℕ
  pub done : Does drains events old between (HasAnswered before then)
  pub begun : Begins drains last between new then after

-- memory is wanting before the event of a line is done, or within it
pub data Starves (drains : Bool) (text : List ℕ) (old new : State) (before after : List ℕ) : Type 0 where
  BeforeLine : (count : ℕ) (first : ServesFirst drains text count old new before after) → Starves drains text old new before after
  InLine : (count : ℕ) (begun : BeginsLast drains text count old new before after) → Starves drains text old new before after

-- a line of a text, before which so many stand, is its lowest that is rejected; the events of those before it were done, and are answered
pub record RejectsLine (drains : Bool) (text : List ℕ) (before number : ℕ) (old new : State) (first after : List ℕ) : Type 0 where
  pub count : ℕ
  pub rejected : events_in text ≡ Err (count + 1)
  pub number_is : number ≡ counted before (count + 1)
  pub served : ServesFirst drains text count old new first after

-- all events of a text were done, and are answered; and then the lowest active run was given some turns, but memory was wanting before
-- no run was left
pub record StarvesAfter (drains : Bool) (text : List ℕ) (old new : State) (before after : List ℕ) : Type 0 where
  pub events : List Event
  pub told : events_in text ≡ Ok (map told_of events)
  pub between : State
  pub then : List ℕ
  pub done : Does drains events old between (HasAnswered before then)
  pub given : EndsSome reply_line between new then after

-- why the lines of a text, before which so many stand, were served no further, and which were served
abbrev pub FailsIn : Bool → List ℕ → ℕ → ServeFault → State → State → List ℕ → List ℕ → Type 0
FailsIn drains text before (fault.Line number why) old new first after = RejectsLine drains text before number old new first after
FailsIn drains text before fault.Memory old new first after = Starves drains text old new first after
FailsIn drains text before why old new first after = ⊥

-- ---- the codec

-- a codec of lines may be used: no line ends in what is unended, and there is room for a transfer
pub record IsReady (codec : LineCodec) : Type 0 where
  pub unended : ends_in codec.unended.items ≡ 0
  pub few : codec.count ≤ 2 ^ 64 - 1
  pub room : length codec.doer.output.items ≡ MOST_TRANSFER

-- of what was unended and these bytes, a text of ended lines was served, and the rest is unended. After what was answered before come the
-- lines of the replies
pub record DoesLinesAfter (old : LineCodec) (s : State) (before bytes : List ℕ) (new : LineCodec) (s' : State) (after : List ℕ)
    : Type 0 where
  pub text : List ℕ
  pub parts : old.unended.items ++ bytes ≡ text ++ new.unended.items
  pub ended : IsEnded text
  pub events : List Event
  pub told : events_in text ≡ Ok (map told_of events)
  pub counted_is : new.count ≡ counted old.count (length (lines text))
  pub done : Does old.doer.drains events s s' (HasAnswered before after)
  pub drains : new.doer.drains ≡ old.doer.drains

-- so it is where nothing was answered before
abbrev pub DoesLines : LineCodec → State → List ℕ → LineCodec → State → List ℕ → Type 0
DoesLines old s bytes new s' answers = DoesLinesAfter old s [] bytes new s' answers

-- what is unended was served as the last line, and then the lowest active run was given turns until no run was left
pub record EndsLines (old : LineCodec) (s : State) (new : LineCodec) (s' : State) (answers : List ℕ) : Type 0 where
  pub events : List Event
  pub told : events_in old.unended.items ≡ Ok (map told_of events)
  pub counted_is : new.count ≡ counted old.count (length (lines old.unended.items))
  pub between : State
  pub then : List ℕ
  pub done : Does old.doer.drains events s between (HasAnswered [] then)
  pub drained : EndsRuns reply_line between s' then answers
  pub none : new.unended.items ≡ []
  pub drains : new.doer.drains ≡ old.doer.drains

-- the same for a stream of which this is left: where it can't be read on, each line that has its end was served; and where memory is
-- wanting at its end, all lines may have been served, and some of the turns after the last were given
abbrev pub StopsIn : Bool → List ℕ → ℕ → Option (List ℕ) → ServeFault → State → State → List ℕ → List ℕ → Type 0
StopsIn drains text before left fault.Read old new first after = ServesFirst drains text (ends_in text) old new first after
StopsIn drains text before left fault.Memory old new first after =
    Starves drains text old new first after ⊎ (IsAtEnd left × StarvesAfter drains text old new first after)
StopsIn drains text before left why old new first after = FailsIn drains text before why old new first after

-- why what was unended and these bytes, of a stream of which this is left, were served no further
abbrev pub StopsLinesAfter : LineCodec → State → List ℕ → List ℕ → Option (List ℕ) → LineCodec → State → List ℕ → ServeFault → Type 0
StopsLinesAfter old s before bytes left new s' after why =
    StopsIn old.doer.drains (old.unended.items ++ bytes) old.count left why s s' before after

-- so it is where nothing was answered before
abbrev pub StopsLines : LineCodec → State → List ℕ → Option (List ℕ) → LineCodec → State → List ℕ → ServeFault → Type 0
StopsLines old s bytes left new s' answers why = StopsLinesAfter old s [] bytes left new s' answers why
