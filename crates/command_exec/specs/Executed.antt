-- What `exec` does, prints and saves.
use Rattle.std.specs.Prelude.{◌≡◌, ◌≤◌, ◌⊎◌, ℕ, Bool, true, if◌then◌else◌, bytes_eq, List, length, codes, map, flat_map, take, Option, Some, None, Ok, IfSome}
use Rattle.std.specs.Io.KnownBytes.{Appends}
use Rattle.image_store.specs.Namespace.{ZonedNamespace}
use Rattle.image_text.specs.Text.{text}
use Rattle.device_meaning.specs.Judging.{Judge, judge_by}
use Rattle.device_events.specs.Replies.{ReplyWithData}
use Rattle.device_meaning.specs.Draining.{HasStoppedDraining}
use Rattle.device_meaning.specs.Events.{HasServed, HasStopped}
use Rattle.device_meaning.specs.JoinedEvents.{HasServedAndDrained}
use Rattle.device_meaning.specs.State.{State, new_state}
use Rattle.device_events.specs.declared.event.Event.{Event}
use Rattle.device_events.specs.ToldEvents.{told_of}
use Rattle.event_text.specs.CommandFile.{events_in, worded_lines}
use Rattle.event_text.specs.Lines.{reply_line}
use Rattle.clap.specs.declared.parser.matches.ArgMatches.{ArgMatches}
use Rattle.command_files.specs.Arguments.{number_of, value_of}
use Rattle.command_files.specs.Crash.{AreWritten}
use Rattle.command_files.specs.Surroundings.{Surroundings}
use Rattle.command_images.specs.Devices.{TellNamespace}
use Rattle.command_images.specs.Images.{HasText, image_of}
use Rattle.command_files.specs.Profile.{operations_of, profile_number}
use Rattle.command_files.specs.declared.profile.Profile.{Profile}
use Rattle.command_exec.specs.declared.exec.TheConstants.{COMMANDS, WORDS_OPTION}
use Rattle.command_exec.specs.declared.fail.Refused.{Refused}
use Rattle.command_exec.specs.Refused.{EndsRefused, NoneRefused, asks_stop, refused_among}

-- the name of the command file that a command line gives
abbrev pub commands_of : ArgMatches → List ℕ
commands_of matches = value_of matches COMMANDS.now

-- what replies say is to be printed in words
abbrev pub asks_words : ArgMatches → Bool
asks_words matches = bytes_eq (value_of matches WORDS_OPTION.now) (codes "true")

-- what an output holds, where it tells that and no words are printed: which words are printed isn't said
abbrev pub told_unless : Bool → Option (List ℕ) → Option (List ℕ)
told_unless words printed = if words then None else printed

-- what it holds, where no words are asked for
abbrev pub lines_of : ArgMatches → Option (List ℕ) → Option (List ℕ)
lines_of matches printed = told_unless (asks_words matches) printed

-- the lines of these replies were printed, in order, and nothing else, where the output tells what it holds
abbrev pub HasPrinted : Option (List ℕ) → Option (List ℕ) → List ReplyWithData → Type 0
HasPrinted before after replies = Appends before after (flat_map reply_line replies)

-- and this is told of the refused commands of these replies, where the events have these lines
abbrev pub HasTold : List ℕ → Option Refused → Option (List ℕ) → Option (List ℕ) → List ReplyWithData → Type 0
HasTold numbers refused before after replies = HasPrinted before after replies × (refused ≡ refused_among numbers replies)

-- the image file's bytes stand for a device that has a namespace and nothing else, where these and what is read of them are told, and
-- the command file's for some events, where these are told
pub record AreInFiles (here : Surroundings) (matches : ArgMatches) (namespace : ZonedNamespace) (events : List Event) : Type 0 where
  pub namespace_is : here.reads → TellNamespace (here.contents (image_of matches)) namespace
  pub events_are : IfSome (here.contents (commands_of matches)) (λ bytes. events_in bytes ≡ Ok (map told_of events))

-- these are the lines of the events of the command file, where its bytes are told
abbrev pub AreTheirLines : Surroundings → ArgMatches → List ℕ → Type 0
AreTheirLines here matches numbers = IfSome (here.contents (commands_of matches)) (λ bytes. numbers ≡ worded_lines bytes)

-- nothing is said of what was printed
abbrev pub Untold : List ReplyWithData → Type 0
Untold replies = Unit {0}

-- the first of some events were done, one or more; or all of them, and then the first of the turns behind them, one or
-- more
pub data HasBegun (judge : Judge) (events : List Event) (old new : State) : Type 0 where
  InEvents : (done : ℕ) (stopped : HasStopped judge events old new Untold done) → HasBegun judge events old new
  InTurns : (between : State) (done : ℕ) (served : HasServed judge events old between Untold)
      (stopped : HasStoppedDraining between new Untold done) → HasBegun judge events old new

module _ (judge : Judge) where
  -- the first of some events were done, and no turn after them: the last of them was refused, and none before it; `took` says of their
  -- replies that they were taken
  pub record HasServedFirst (events : List Event) (old new : State) (took : List ReplyWithData → Type 0) : Type 0 where
    pub done : ℕ
    pub some : 1 ≤ done
    pub within : done ≤ length events
    pub served : HasServed judge (take done events) old new (λ replies. took replies × EndsRefused replies)

  -- the events are done, and the turns after them; or, where the work is to stop at the first refused command, that only if none of the
  -- events was refused, and else those up to the first that was
  abbrev pub HasServedAsked : Bool → List Event → State → State → (List ReplyWithData → Type 0) → Type 0
  HasServedAsked stops events old new took =
      HasServedAndDrained judge events old new (λ replies. took replies × (stops ≡ true → NoneRefused (take (length events) replies)))
      ⊎ ((stops ≡ true) × HasServedFirst events old new took)

  -- all were done, with the turns behind them; or the first of these, one or more
  abbrev pub HasDone : List Event → State → State → Type 0
  HasDone events old new = HasServedAndDrained judge events old new Untold ⊎ HasBegun judge events old new

  -- these bytes are an image of the namespace that they leave, where what is written of it is told
  pub record AreLeft (writes : Type 0) (events : List Event) (namespace : ZonedNamespace) (bytes : List ℕ) : Type 0 where
    pub left : State
    pub done : HasDone events (new_state namespace) left
    pub written : AreWritten writes (text left.namespace) bytes

  -- what is asked for is done on a namespace, and the file has the text of the namespace that is left; `told` says what was printed and
  -- told of the replies
  pub record SavesAll (stops : Bool) (here : Surroundings) (events : List Event) (namespace : ZonedNamespace) (path : List ℕ)
      (told : List ReplyWithData → Type 0) : Type 0 where
    pub left : State
    pub done : HasServedAsked stops events (new_state namespace) left told
    pub saved : HasText here path (text left.namespace)

  -- the file has the text of the namespace that the first of these leave. How many is not said: standard output doesn't tell
  -- what it took
  pub record SavesFirst (here : Surroundings) (events : List Event) (namespace : ZonedNamespace) (path : List ℕ) : Type 0 where
    pub left : State
    pub begun : HasBegun judge events (new_state namespace) left
    pub saved : HasText here path (text left.namespace)

  -- what is done isn't saved: all that is asked for, and the line of each reply is printed; or the first of it, where standard output
  -- fails, which doesn't tell what it took
  pub record IsDoneUnsaved (stops : Bool) (events : List Event) (namespace : ZonedNamespace)
      (printed printed_after : Option (List ℕ)) : Type 0 where
    pub left : State
    pub done : HasServedAsked stops events (new_state namespace) left (HasPrinted printed printed_after)
        ⊎ HasBegun judge events (new_state namespace) left

  -- the events of the command file are done on the namespace of the image file, and this is told of the refused commands
  pub record ExecutesBy (here : Surroundings) (matches : ArgMatches) (printed printed_after : Option (List ℕ))
      (refused : Option Refused) : Type 0 where
    pub namespace : ZonedNamespace
    pub events : List Event
    pub in_files : AreInFiles here matches namespace events
    pub numbers : List ℕ
    pub their_lines : AreTheirLines here matches numbers
    pub saves : SavesAll (asks_stop matches) here events namespace (image_of matches)
        (HasTold numbers refused (lines_of matches printed) (lines_of matches printed_after))

  -- the first of them are
  pub record ExecutesFirstBy (here : Surroundings) (matches : ArgMatches) : Type 0 where
    pub namespace : ZonedNamespace
    pub events : List Event
    pub in_files : AreInFiles here matches namespace events
    pub saves : SavesFirst here events namespace (image_of matches)

  -- they are, or the first of them are, and what they leave isn't saved
  pub record IsntSavedBy (here : Surroundings) (matches : ArgMatches) (printed printed_after : Option (List ℕ)) : Type 0 where
    pub namespace : ZonedNamespace
    pub events : List Event
    pub in_files : AreInFiles here matches namespace events
    pub unsaved : IsDoneUnsaved (asks_stop matches) events namespace (lines_of matches printed) (lines_of matches printed_after)

  -- these bytes are an image of what all of them, or the first of them, leave
  pub record AreExecutedBy (here : Surroundings) (matches : ArgMatches) (bytes : List ℕ) : Type 0 where
    pub namespace : ZonedNamespace
    pub events : List Event
    pub in_files : AreInFiles here matches namespace events
    pub left : AreLeft here.writes events namespace bytes

-- the words ask for a profile, and this holds of the judge by it
pub record IsByProfile (matches : ArgMatches) (Holds : Judge → Type 0) : Type 0 where
  pub profile : Profile
  pub asked : number_of matches (codes "profile") ≡ Some (profile_number profile)
  pub holds : Holds (judge_by (operations_of profile))

-- all is done, where Load judges by the profile that is asked for, and this is told of the refused commands
abbrev pub Executes : Surroundings → ArgMatches → Option (List ℕ) → Option (List ℕ) → Option Refused → Type 0
Executes here matches printed printed_after refused =
    IsByProfile matches (λ judge. ExecutesBy judge here matches printed printed_after refused)

-- the first of it is
abbrev pub ExecutesFirst : Surroundings → ArgMatches → Type 0
ExecutesFirst here matches = IsByProfile matches (λ judge. ExecutesFirstBy judge here matches)

-- what all of it, or the first of it, leaves isn't saved
abbrev pub IsntSaved : Surroundings → ArgMatches → Option (List ℕ) → Option (List ℕ) → Type 0
IsntSaved here matches printed printed_after = IsByProfile matches (λ judge. IsntSavedBy judge here matches printed printed_after)

-- these bytes are an image of what all of it, or the first of it, leaves
abbrev pub AreExecuted : Surroundings → ArgMatches → List ℕ → Type 0
AreExecuted here matches bytes = IsByProfile matches (λ judge. AreExecutedBy judge here matches bytes)
