-- A stream that is served, in frames or by lines, by a device whose events a journal keeps, or nothing (profile).
use Rattle.std.specs.Prelude.{ℕ, Bool, true, false, ◌≡◌, ◌<◌, List, [], Option, Some, None, Result, Ok, Err}
use Rattle.clap.specs.declared.parser.matches.ArgMatches.{ArgMatches}
use Rattle.stored_file.specs.File.{FileState}
use Rattle.image_store.specs.Namespace.{ZonedNamespace}
use Rattle.device_meaning.specs.State.{State}
use Rattle.durable_machine.specs.Unkept.{no_file}
use Rattle.durable_machine.specs.declared.journal.Journal.{Journal}
use Rattle.durable_device.specs.Kept.{IsKept}
use Rattle.device_serve.specs.FrameStream.{Does, Ends, FrameReader, Stops, reader}
use Rattle.device_serve.specs.LineStream.{DoesLines, EndsLines, IsReady, StopsLines}
use Rattle.device_serve.specs.Rounds.{Doing, Ending, ServesStream, Site, Stopping, StopsServing, on}
use Rattle.device_serve.specs.declared.fault.ServeFault.{ServeFault}
use Rattle.device_serve.specs.declared.fault.ServeFault.TheVariants as fault
use Rattle.device_serve.specs.declared.frames.FrameCodec.{FrameCodec}
use Rattle.device_serve.specs.declared.lines.LineCodec.{LineCodec}
use Rattle.command_serve.specs.Asked.{asks_drain, asks_frames, turns_between}
use Rattle.command_serve.specs.declared.form.Form.{Form}
use Rattle.command_serve.specs.declared.form.Form.TheVariants.{Frames, Lines}

-- ---- what keeps the events

-- a disk, as far as it is known, and when all that led to a state is on it
pub record Shelf (D : Type 0) : Type 1 where
  pub told : D → FileState
  pub settled : State → D → Type 0

abbrev pub shelf : {D : Type 0} → (D → FileState) → (State → D → Type 0) → Shelf D
shelf told settled = record { told = told; settled = settled }

-- nothing keeps them
abbrev pub nowhere : Shelf (Unit {0})
nowhere = shelf (λ disk. no_file) (λ s disk. Unit {0})

-- a journal does
abbrev pub in_journal : {S : Type 0} → (S → FileState) → Shelf (Journal S)
in_journal told = shelf (λ journal. told journal.file) (λ s journal. IsKept s journal.gate (told journal.file))

-- ---- how a stream is read and answered

-- a codec, and what keeps images meanwhile: how it begins with that, what it does, and what it leaves of that
pub record Protocol (C K : Type 0) : Type 1 where
  pub begins : C → K → Type 0
  pub does : Doing C
  pub ends : Ending C
  pub stops : Stopping C
  pub leaves : C → K → K → Type 0

-- what of a codec of frames is read and kept
abbrev pub reader_of : {K : Type 0} → FrameCodec K → FrameReader K
reader_of codec = reader codec.session codec.turns codec.ends_runs codec.keeper

-- frames, with so many turns at most between two reads, and turns that end the runs at the end. Images are kept as `has_kept` says; by
-- keeping some, or by failing to, what keeps them becomes what `becomes` says
abbrev pub frames : {K : Type 0} → (K → K → ZonedNamespace → Type 0) → (K → K → Type 0) → ℕ → Protocol (FrameCodec K) K
frames has_kept becomes turns = record {
  begins = λ codec keeper. reader_of codec ≡ reader (record { pending = []; place = 0; fault = None }) turns true keeper;
  does = λ old s bytes new t answers. Does has_kept becomes (reader_of old) s [] bytes (reader_of new) t answers;
  ends = λ old s new t answers. Ends has_kept becomes (reader_of old) s [] (reader_of new) t answers;
  stops = λ old s bytes left new t answers why. Stops has_kept becomes (reader_of old) s [] bytes left (reader_of new) t answers why;
  leaves = λ codec before after. after ≡ codec.keeper;
}

-- lines, which ask for no image to be kept
abbrev pub lines : {K : Type 0} → LineCodec → Protocol LineCodec K
lines first = record {
  begins = λ codec keeper. codec ≡ first;
  does = DoesLines;
  ends = EndsLines;
  stops = StopsLines;
  leaves = λ codec before after. after ≡ before;
}

-- lines of which nothing has come, with turns after each event where it is asked for
pub record BeginsLines (drains : Bool) (codec : LineCodec) : Type 0 where
  pub none : codec.unended.items ≡ []
  pub first : codec.count ≡ 0
  pub drains_are : codec.doer.drains ≡ drains

-- a codec in it may be used
abbrev pub IsReadyIn : Form → Type 0
IsReadyIn (Frames room turns) = Unit {0}
IsReadyIn (Lines codec) = IsReady codec

-- it is the form that the command line asks for
abbrev pub IsAsked : ArgMatches → Form → Type 0
IsAsked matches (Frames room turns) = (asks_frames matches ≡ true) × (turns ≡ turns_between matches)
IsAsked matches (Lines codec) = (asks_frames matches ≡ false) × BeginsLines (asks_drain matches) codec

-- ---- a stream that is served

-- how serving ended: nothing where all of the stream was served; or why it stopped, and what is left of it, where that is known
abbrev pub End : Type 0
End = Option (ServeFault × Option (List ℕ))

abbrev pub end_of : Result (Unit {0}) ServeFault → Option (List ℕ) → End
end_of (Ok done) left = None
end_of (Err why) left = Some (why, left)

-- a device in a state, the bytes that were written, where the output reports them, the disk of its events, and what keeps images
pub record Server (D K : Type 0) : Type 0 where
  pub state : State
  pub written : Option (List ℕ)
  pub disk : D
  pub keeper : K

abbrev pub seen : {D K : Type 0} → State → Option (List ℕ) → D → K → Server D K
seen state written disk keeper = record { state = state; written = written; disk = disk; keeper = keeper }

module _ {C D K : Type 0} (words : Protocol C K) (shelf : Shelf D) (unread : Option (List ℕ)) where
  -- all of a stream is served; or it stops, and for the disk only where that has failed
  abbrev pub Comes : End → Site C D → Site C D → Type 0
  Comes None old new = ServesStream words.does shelf.told shelf.settled words.ends unread old new
  Comes (Some stop) old new =
      StopsServing words.does shelf.told shelf.settled words.ends words.stops unread stop.1 old new stop.0
      × (stop.0 ≡ fault.Disk → (shelf.told old.disk).faults < (shelf.told new.disk).faults)

  -- a stream is served by a codec that begins so
  pub record Serves (end : End) (old new : Server D K) : Type 0 where
    pub first : C
    pub begins : words.begins first old.keeper
    pub last : C
    pub comes : Comes end (on first old.state old.written old.disk) (on last new.state new.written new.disk)
    pub leaves : words.leaves last old.keeper new.keeper

-- so it is with a stream in this form
abbrev pub ServesIn : {D K : Type 0} → (K → K → ZonedNamespace → Type 0) → (K → K → Type 0) → Shelf D → Form → Option (List ℕ) → End
    → Server D K → Server D K → Type 0
ServesIn has_kept becomes shelf (Frames room turns) unread = Serves (frames has_kept becomes turns) shelf unread
ServesIn has_kept becomes shelf (Lines codec) unread = Serves (lines codec) shelf unread
