-- What a device does that is served a stream (profile): in rounds, in each of which it does what some bytes ask for, then all of that is
-- on the disk, and then what answers it is written. Which requests bytes are, and which bytes answer them, a codec says.
use Rattle.std.specs.Prelude.{ℕ, ◌≡◌, ◌≤◌, ◌++◌, List, [], ◌∷◌, flat_map, length, take, Option, IfSome}
use Rattle.std.specs.Io.KnownBytes.{Appends, Consumes}
use Rattle.stored_file.specs.File.{FileState, LeavesOnly}
use Rattle.device_meaning.specs.State.{State}
use Rattle.durable_device.specs.Kept.{IsEither, StandsFor, StandsForIt}
use Rattle.device_serve.specs.declared.fault.ServeFault.{ServeFault}
use Rattle.device_serve.specs.declared.fault.ServeFault.TheVariants as fault

-- a device in a state, with the codec of its stream, the bytes that were written, where the output reports them, and its disk
pub record Site (C D : Type 0) : Type 0 where
  pub codec : C
  pub state : State
  pub written : Option (List ℕ)
  pub disk : D

abbrev pub on : {C D : Type 0} → C → State → Option (List ℕ) → D → Site C D
on codec state written disk = record { codec = codec; state = state; written = written; disk = disk }

-- pieces of a stream, one after another
abbrev pub laid : List (List ℕ) → List ℕ
laid = flat_map (λ piece. piece)

-- what a codec says: from it and a state some bytes are done, which leads to a codec and a state, and is answered by bytes
abbrev pub Doing : Type 0 → Type 1
Doing C = C → State → List ℕ → C → State → List ℕ → Type 0

-- the same after what was answered before, to which it adds
abbrev pub Adding : Type 0 → Type 1
Adding C = C → State → List ℕ → List ℕ → C → State → List ℕ → Type 0

-- a round begins where nothing waits to be answered
abbrev pub afresh : {C : Type 0} → Adding C → Doing C
afresh adds = λ old s bytes new t answers. adds old s [] bytes new t answers

-- the same at the end of the stream
abbrev pub Ending : Type 0 → Type 1
Ending C = C → State → C → State → List ℕ → Type 0

-- the first of some bytes are done and answered so, of a stream of which this is left, and for this it stops there
abbrev pub Stopping : Type 0 → Type 1
Stopping C = C → State → List ℕ → Option (List ℕ) → C → State → List ℕ → ServeFault → Type 0

-- the same after what was answered before
abbrev pub StoppingOn : Type 0 → Type 1
StoppingOn C = C → State → List ℕ → List ℕ → Option (List ℕ) → C → State → List ℕ → ServeFault → Type 0

abbrev pub stops_afresh : {C : Type 0} → StoppingOn C → Stopping C
stops_afresh stops = λ old s bytes left new t answers why. stops old s [] bytes left new t answers why

-- what is done in two parts is done as a whole
abbrev pub DoneInParts : {C : Type 0} → Adding C → Type 0
DoneInParts {C = C} adds = (a b c : C) (s t u : State) (before then after first later : List ℕ)
    → adds a s before first b t then → adds b t then later c u after → adds a s before (first ++ later) c u after

-- and where it stops in the second part, it stops in the whole
abbrev pub StoppedInParts : {C : Type 0} → Adding C → StoppingOn C → Type 0
StoppedInParts {C = C} adds stops = (a b c : C) (s t u : State) (before then after first later : List ℕ) (left : Option (List ℕ))
    (why : ServeFault) → adds a s before first b t then → stops b t then later left c u after why
    → stops a s before (first ++ later) left c u after why

-- a codec stops by itself, for what it reads or for memory: neither the output nor the disk has failed
abbrev pub IsCodecs : ServeFault → Type 0
IsCodecs fault.Write = ⊥
IsCodecs fault.Disk = ⊥
IsCodecs why = Unit {0}

-- why what answers is not written: an output that fails doesn't report what it took; where the disk fails or memory is wanting, nothing is
-- written
abbrev pub IsUnsent : ServeFault → Option (List ℕ) → Option (List ℕ) → Type 0
IsUnsent fault.Write before after = Unit {0}
IsUnsent fault.Disk before after = after ≡ before
IsUnsent fault.Memory before after = after ≡ before
IsUnsent why before after = ⊥

module _ {C D : Type 0} (does : Doing C) (told : D → FileState) (settled : State → D → Type 0) where
  -- a round. Until what was done is on the disk, a crash leaves the device as it was, or with all of it done; from then on with all of it
  pub record Round (bytes : List ℕ) (old new : Site C D) : Type 0 where
    pub answers : List ℕ
    pub done : does old.codec old.state bytes new.codec new.state answers
    pub moments : LeavesOnly (told old.disk) (told new.disk) (IsEither old.state new.state)
    pub on_disk : settled new.state new.disk
    pub written : Appends old.written new.written answers

  -- rounds, one after another, each for the next of these pieces
  abbrev pub AreRounds : List (List ℕ) → Site C D → Site C D → Type 0
  AreRounds [] old new = new ≡ old
  AreRounds (piece ∷ pieces) old new = (mid : Site C D) × Round piece old mid × AreRounds pieces mid new

  -- a file stands for the device after the first of some rounds: none, some or all of them
  pub record IsAfterRounds (pieces : List (List ℕ)) (old : Site C D) (file : List ℕ) : Type 0 where
    pub count : ℕ
    pub within : count ≤ length pieces
    pub mid : Site C D
    pub first : AreRounds (take count pieces) old mid
    pub stands : StandsFor file mid.state

  -- the law of what a crash leaves: whenever it comes, the device after the first of the rounds; and since a round's answers are written
  -- only once it is on the disk, no fewer than were answered by then
  abbrev pub CrashLeavesRounds : Type 0
  CrashLeavesRounds = (pieces : List (List ℕ)) (old new : Site C D) → settled old.state old.disk → AreRounds pieces old new
      → LeavesOnly (told old.disk) (told new.disk) (IsAfterRounds pieces old)

  -- of a file that a crash left while rounds were served, the device after these first ones is opened
  abbrev pub RoundsComeBack : Type 0
  RoundsComeBack = (pieces : List (List ℕ)) (old : Site C D) (left : List ℕ) (opened : State)
      (after : IsAfterRounds pieces old left) → StandsForIt left opened → opened ≡ after.mid.state

  -- bytes are served in rounds
  pub record InRounds (bytes : List ℕ) (old new : Site C D) : Type 0 where
    pub pieces : List (List ℕ)
    pub are : bytes ≡ laid pieces
    pub rounds : AreRounds pieces old new

  module _ (ends : Ending C) where
    -- the last round, at the end of the stream
    pub record LastRound (old new : Site C D) : Type 0 where
      pub answers : List ℕ
      pub done : ends old.codec old.state new.codec new.state answers
      pub moments : LeavesOnly (told old.disk) (told new.disk) (IsEither old.state new.state)
      pub on_disk : settled new.state new.disk
      pub written : Appends old.written new.written answers

    -- all that was left to read, where that is reported, is served in rounds, and then the stream ends
    pub record ServesStream (unread : Option (List ℕ)) (old new : Site C D) : Type 0 where
      pub bytes : List ℕ
      pub all : IfSome unread (λ known. known ≡ bytes)
      pub mid : Site C D
      pub served : InRounds bytes old mid
      pub last : LastRound mid new

    module _ (stops : Stopping C) where
      -- a round is begun for the first of these bytes, or for the end of the stream, which these answer; it may have stopped
      pub data IsBegun (bytes : List ℕ) (left : Option (List ℕ)) (old new : Site C D) (answers : List ℕ) : Type 0 where
        Done : (count : ℕ) (done : does old.codec old.state (take count bytes) new.codec new.state answers)
            → IsBegun bytes left old new answers
        Ended : (done : ends old.codec old.state new.codec new.state answers) → IsBegun bytes left old new answers
        Stopped : (why : ServeFault) (stopped : stops old.codec old.state bytes left new.codec new.state answers why)
            → IsBegun bytes left old new answers

      -- a round isn't brought to its end: the codec stops, and what was done until there is on the disk and answered; or what was done
      -- isn't answered
      pub data Breaks (bytes : List ℕ) (left : Option (List ℕ)) (old new : Site C D) (why : ServeFault) : Type 0 where
        Answered : (answers : List ℕ) (stopped : stops old.codec old.state bytes left new.codec new.state answers why)
            (moments : LeavesOnly (told old.disk) (told new.disk) (IsEither old.state new.state)) (on_disk : settled new.state new.disk)
            (written : Appends old.written new.written answers) → Breaks bytes left old new why
        Unsent : (answers : List ℕ) (begun : IsBegun bytes left old new answers) (unsent : IsUnsent why old.written new.written)
            (moments : LeavesOnly (told old.disk) (told new.disk) (IsEither old.state new.state))
            (on_disk : why ≡ fault.Write → settled new.state new.disk) → Breaks bytes left old new why

      -- of bytes the first are served in rounds, and then one breaks off
      pub record BreaksOff (bytes : List ℕ) (left : Option (List ℕ)) (old new : Site C D) (why : ServeFault) : Type 0 where
        pub first : List ℕ
        pub rest : List ℕ
        pub are : bytes ≡ first ++ rest
        pub mid : Site C D
        pub served : InRounds first old mid
        pub breaks : Breaks rest left mid new why

      -- so it is with what was read of a stream
      pub record StopsServing (unread left : Option (List ℕ)) (old new : Site C D) (why : ServeFault) : Type 0 where
        pub bytes : List ℕ
        pub read : Consumes unread left bytes
        pub off : BreaksOff bytes left old new why
