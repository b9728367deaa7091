-- What a codec of frames does (profile): the requests that a stream asks for, in order, turns between two reads, and turns at the stream's
-- end; and the bytes that answer them.
use Rattle.std.specs.Prelude.{ℕ, zero, suc, Bool, true, false, not, ◌≡◌, ◌<◌, ◌≤◌, ◌%◌, ◌+◌, ◌⊎◌, List, [], ◌∷◌, ◌++◌, filter, flat_map, length, Option, Some, None}
use Rattle.std.specs.Io.KnownBytes.{IsAtEnd}
use Rattle.nvme_entry.specs.declared.command.TheConstants.{MOST_TRANSFER}
use Rattle.zone_resources.specs.declared.holds.TheConstants.{RUNS}
use Rattle.image_store.specs.Namespace.{ZonedNamespace}
use Rattle.device_events.specs.Replies.{ReplyWithData}
use Rattle.device_events.specs.declared.event.Event.{Event}
use Rattle.device_events.specs.declared.event.Event.TheVariants as event
use Rattle.device_meaning.specs.Events.{HasHappened, HasServed}
use Rattle.device_meaning.specs.Happenings.{turned}
use Rattle.device_meaning.specs.Judging.{interval_judge}
use Rattle.device_meaning.specs.State.{State}
use Rattle.durable_device.specs.Changing.{is_idle}
use Rattle.event_frames.specs.Frames.{drained_frame, reply_frame, request_frame, saved_frame}
use Rattle.event_frames.specs.Requests.{Fits, told_of}
use Rattle.event_frames.specs.Streams.{IsFault, IsPartial, SessionState, behind}
use Rattle.event_frames.specs.declared.fault.StreamFault.{StreamFault}
use Rattle.event_frames.specs.declared.fault.StreamFault.TheVariants as stream
use Rattle.event_frames.specs.declared.request.Request.{Request}
use Rattle.event_frames.specs.declared.request.Request.TheVariants as request
use Rattle.device_serve.specs.EndingRuns.{EndsRuns, EndsSome}
use Rattle.device_serve.specs.declared.fault.ServeFault.{ServeFault}
use Rattle.device_serve.specs.declared.fault.ServeFault.TheVariants as fault

-- an event happened, or nothing did; what the reply to it is isn't said
abbrev pub Began : Event → State → State → Type 0
Began e old new = (new ≡ old) ⊎ ((reply : ReplyWithData) × HasHappened interval_judge e old new reply)

-- events were done, and after what was answered before came the frames of the replies to them, in order, and nothing else
abbrev pub Answers : List Event → State → State → List ℕ → List ℕ → Type 0
Answers events old new before after =
    HasServed interval_judge events old new (λ replies. after ≡ before ++ flat_map reply_frame replies)

-- ---- turns, round the runs

-- the replies to turns that runs were given
abbrev pub of_runs : List ReplyWithData → List ReplyWithData
of_runs replies = filter (λ r. not (is_idle r.reply)) replies

-- so many turns, one for each run number from 0 on, and after 7 from 0 on again
abbrev pub turns_round : ℕ → List Event
turns_round zero = []
turns_round (suc n) = turns_round n ++ event.Turn (n % 8) ∷ []

-- what answers turns of runs, and how many they are
abbrev pub TookTurns : List ℕ × ℕ → List ℕ × ℕ → List ReplyWithData → Type 0
TookTurns old new replies = (new.0 ≡ old.0 ++ flat_map reply_frame (of_runs replies)) × (new.1 ≡ length (of_runs replies) + old.1)

-- no run has this number
abbrev pub HasNone : State → ℕ → Type 0
HasNone s run = is_idle (turned s run).reply.reply ≡ true

-- no run is left
abbrev pub NoneLeft : State → Type 0
NoneLeft s = (run : ℕ) → run < RUNS → HasNone s run

-- turns went round the runs, each of which was given one at a time, and each was answered but that of a number that no run has; that
-- many were given, as many as were wanted, or fewer, where no run is left then
pub record GivesTurns (most given : ℕ) (old new : State) (before after : List ℕ) : Type 0 where
  pub tries : ℕ
  pub served : HasServed interval_judge (turns_round tries) old new (TookTurns (before, 0) (after, given))
  pub few : given ≤ most
  pub all : (given ≡ most) ⊎ NoneLeft new

-- they went round, and no more were given than were wanted; what answers them isn't said
pub record WentRound (most : ℕ) (old new : State) : Type 0 where
  pub tries : ℕ
  pub served : HasServed interval_judge (turns_round tries) old new (λ replies. length (of_runs replies) ≤ most)

-- the answer to a drain: the turns, and then how many they were
pub record Drains (most : ℕ) (old new : State) (before after : List ℕ) : Type 0 where
  pub given : ℕ
  pub answered : List ℕ
  pub turns : GivesTurns most given old new before answered
  pub drained : after ≡ answered ++ drained_frame given

-- ---- requests

-- what a stream is served by: a device in a state, the bytes that answer what was done, and what keeps images
pub record Server (K : Type 0) : Type 0 where
  pub state : State
  pub answered : List ℕ
  pub keeper : K

abbrev pub seen : {K : Type 0} → State → List ℕ → K → Server K
seen state answered keeper = record { state = state; answered = answered; keeper = keeper }

-- what happens in a stream: a request that was asked for, or the turns that are given between two reads
pub data Step : Type 0 where
  Asked : (r : Request) → Step
  Between : Step

-- the bytes that asked for it
abbrev pub step_bytes : Step → List ℕ
step_bytes (Asked r) = request_frame (told_of r)
step_bytes Between = []

abbrev pub stream_of : List Step → List ℕ
stream_of = flat_map step_bytes

-- where a server keeps images, of which `has_kept` says how
module _ {K : Type 0} (has_kept : K → K → ZonedNamespace → Type 0) where
  -- a request is done and answered
  abbrev pub IsDone : Request → Server K → Server K → Type 0
  IsDone (request.Event e) old new = Answers (e ∷ []) old.state new.state old.answered new.answered × (new.keeper ≡ old.keeper)
  IsDone (request.Drain most) old new = Drains most old.state new.state old.answered new.answered × (new.keeper ≡ old.keeper)
  IsDone request.Save old new =
      (new.state ≡ old.state) × has_kept old.keeper new.keeper old.state.namespace × (new.answered ≡ old.answered ++ saved_frame)

  -- it isn't answered, for this: no memory, and then it isn't done, or in part, or it is done; or it is a save, and the image isn't kept
  abbrev pub Fails : Request → Server K → Server K → ServeFault → Type 0
  Fails (request.Event e) old new why = (why ≡ fault.Memory) × Began e old.state new.state × (new.keeper ≡ old.keeper)
  Fails (request.Drain most) old new why = (why ≡ fault.Memory) × WentRound most old.state new.state × (new.keeper ≡ old.keeper)
  Fails request.Save old new why =
      (new.state ≡ old.state) × ((why ≡ fault.Save) ⊎ ((why ≡ fault.Memory) × has_kept old.keeper new.keeper old.state.namespace))

-- where it gives so many turns at most between two reads
module _ {K : Type 0} (has_kept : K → K → ZonedNamespace → Type 0) (turns : ℕ) where
  -- a step is done; a request that was asked for fits its frame, so the bytes ask for no other
  abbrev pub IsStep : Step → Server K → Server K → Type 0
  IsStep (Asked r) old new = Fits (told_of r) × IsDone has_kept r old new
  IsStep Between old new = ((given : ℕ) × GivesTurns turns given old.state new.state old.answered new.answered) × (new.keeper ≡ old.keeper)

  -- it isn't answered
  abbrev pub FailsIn : Step → Server K → Server K → ServeFault → Type 0
  FailsIn (Asked r) old new why = Fits (told_of r) × Fails has_kept r old new why
  FailsIn Between old new why = (why ≡ fault.Memory) × WentRound turns old.state new.state × (new.keeper ≡ old.keeper)

  -- steps are done, one after another
  abbrev pub AreDone : List Step → Server K → Server K → Type 0
  AreDone [] old new = new ≡ old
  AreDone (step ∷ steps) old new = (mid : Server K) × IsStep step old mid × AreDone steps mid new

-- ---- a stream

-- so many bytes are counted from one place to the other, up to 2 ^ 64 - 1
abbrev pub AreCounted : ℕ → ℕ → ℕ → Type 0
AreCounted place count place' = (n : ℕ) → place ≡ behind 0 n → place' ≡ behind 0 (n + count)

-- a stream isn't read on, of which these bytes have come after the last step that is done, the first of them at this place, and this
-- is left: a byte is wrong; or it ends there within a frame
abbrev pub IsStreamFault : StreamFault → List ℕ → ℕ → Option (List ℕ) → Type 0
IsStreamFault (stream.Byte at name) held place left = IsFault place held (stream.Byte at name)
IsStreamFault (stream.CutOff at) held place left = IsAtEnd left × (0 < length held) × IsPartial held × (at ≡ behind place (length held))
IsStreamFault stream.Memory held place left = Unit {0}

-- why nothing more is done of it, though nothing is under way; no whole frame has come where it can't be read
abbrev pub IsUnread : ServeFault → List ℕ → ℕ → Option (List ℕ) → Type 0
IsUnread fault.Read held place left = IsPartial held
IsUnread (fault.Stream f) held place left = IsStreamFault f held place left
IsUnread (fault.Line number f) held place left = ⊥
IsUnread fault.Write held place left = ⊥
IsUnread fault.Save held place left = ⊥
IsUnread fault.Disk held place left = ⊥
IsUnread fault.Memory held place left = Unit {0}

-- what reads a stream of frames: what has come of the next frame, and where; how many turns it gives the runs between two reads; whether
-- the stream's end ends all runs; and what keeps images
pub record FrameReader (K : Type 0) : Type 0 where
  pub session : SessionState
  pub turns : ℕ
  pub ends_runs : Bool
  pub keeper : K

abbrev pub reader : {K : Type 0} → SessionState → ℕ → Bool → K → FrameReader K
reader session turns ends_runs keeper = record { session = session; turns = turns; ends_runs = ends_runs; keeper = keeper }

-- the end of a stream ends all runs, or does nothing
abbrev pub EndsAsAsked : Bool → State → State → List ℕ → List ℕ → Type 0
EndsAsAsked true old new before after = EndsRuns reply_frame old new before after
EndsAsAsked false old new before after = (new ≡ old) × (after ≡ before)

-- where a server keeps images, of which `has_kept` says how; by keeping some, or by failing to, it becomes what `becomes` says
module _ {K : Type 0} (has_kept : K → K → ZonedNamespace → Type 0) (becomes : K → K → Type 0) where
  -- it serves the same stream further
  pub record GoesOn (old new : FrameReader K) : Type 0 where
    pub turns : new.turns ≡ old.turns
    pub ends_runs : new.ends_runs ≡ old.ends_runs
    pub keeper : becomes old.keeper new.keeper

  -- what it held and these bytes ask for steps that are done and answered, in order, and then it holds the rest
  pub record Does (old : FrameReader K) (s : State) (before bytes : List ℕ) (new : FrameReader K) (t : State) (after : List ℕ)
      : Type 0 where
    pub goes_on : GoesOn old new
    pub healthy : new.session.fault ≡ old.session.fault
    pub steps : List Step
    pub stream_is : old.session.pending ++ bytes ≡ stream_of steps ++ new.session.pending
    pub counted : AreCounted old.session.place (length (stream_of steps)) new.session.place
    pub done : AreDone has_kept old.turns steps (seen s before old.keeper) (seen t after new.keeper)

  -- the stream ends, and nothing of a frame is held
  pub record Ends (old : FrameReader K) (s : State) (before : List ℕ) (new : FrameReader K) (t : State) (after : List ℕ) : Type 0 where
    pub same : new ≡ old
    pub healthy : old.session.fault ≡ None
    pub whole : old.session.pending ≡ []
    pub ended : EndsAsAsked old.ends_runs s t before after

  -- why it stops where these bytes are held, the first of them at this place: with nothing under way; since it stopped for that before;
  -- in the step that they ask for; or in the turns that end the runs, some of which are given, and are answered but for the last
  pub data Leaves (why : ServeFault) (old : FrameReader K) (held : List ℕ) (place : ℕ) (left : Option (List ℕ)) (between new : Server K)
      : Type 0 where
    Idle : (unread : IsUnread why held place left) (same : new ≡ between) → Leaves why old held place left between new
    Again : (f : StreamFault) (broken : old.session.fault ≡ Some f) (is : why ≡ fault.Stream f) (same : new ≡ between)
        → Leaves why old held place left between new
    Within : (step : Step) (more : List ℕ) (asked : held ≡ step_bytes step ++ more)
        (fails : FailsIn has_kept old.turns step between new why) (unanswered : new.answered ≡ between.answered)
        → Leaves why old held place left between new
    Ending : (asked : old.ends_runs ≡ true) (whole : held ≡ []) (at_end : IsAtEnd left) (starved : why ≡ fault.Memory)
        (some : EndsSome reply_frame between.state new.state between.answered new.answered) (keeper : new.keeper ≡ between.keeper)
        → Leaves why old held place left between new

  -- the first steps that what it held and these bytes ask for are done and answered, in order, and then it stops
  pub record Stops (old : FrameReader K) (s : State) (before bytes : List ℕ) (left : Option (List ℕ)) (new : FrameReader K) (t : State)
      (after : List ℕ) (why : ServeFault) : Type 0 where
    pub goes_on : GoesOn old new
    pub steps : List Step
    pub held : List ℕ
    pub place : ℕ
    pub between : Server K
    pub stream_is : old.session.pending ++ bytes ≡ stream_of steps ++ held
    pub counted : AreCounted old.session.place (length (stream_of steps)) place
    pub done : AreDone has_kept old.turns steps (seen s before old.keeper) between
    pub leaves : Leaves why old held place left between (seen t after new.keeper)

-- it may be used: it holds less than a whole frame, has room for the data of a reply, and may be asked to keep images
pub record IsReady {K : Type 0} (is_ready : K → Type 0) (codec : FrameReader K) (output : List ℕ) : Type 0 where
  pub partial : IsPartial codec.session.pending
  pub room : length output ≡ MOST_TRANSFER
  pub keeper : is_ready codec.keeper
