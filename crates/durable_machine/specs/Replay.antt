-- What is done again of a journal.
use Rattle.std.specs.Prelude.{◌≡◌, ℕ, ◌+◌, ◌≤◌, Bool, false, List, ◌++◌, length}
use Rattle.durable_machine.specs.Events.{AreSized, BeginsEvent, spelled}
use Rattle.durable_machine.specs.Journal.{AreFrames, BeginsNoBatch, IsFrame}
use Rattle.durable_machine.specs.LastBatch.{IsLast}
use Rattle.durable_machine.specs.Runs.{state_again}
use Rattle.durable_machine.specs.Files.{joined}
use Rattle.durable_machine.specs.declared.replay.Halt.{Halt}
use Rattle.durable_machine.specs.declared.replay.Halt.TheVariants.{Memory, Idle}

module _ {S : Type 0} (next : S → Bool → List ℕ → S) where
  -- the events that bytes spell led from one state to the other
  abbrev pub LeadsAgain : List ℕ → S → S → Type 0
  LeadsAgain bytes old new =
      (events : List (List ℕ)) → AreSized events → bytes ≡ spelled events → new ≡ state_again next events old

  -- an event that stands at this offset, after those that bytes spell, changes nothing in the state to which these led, where memory is
  -- given
  pub record IsIdleEvent (at : ℕ) (bytes : List ℕ) (old : S) : Type 0 where
    pub before : List (List ℕ)
    pub sized : AreSized before
    pub event : List ℕ
    pub behind : List ℕ
    pub rest : List ℕ
    pub begins : BeginsEvent event rest behind
    pub parts : bytes ≡ spelled before ++ behind
    pub place : at ≡ length (spelled before)
    pub idle : next (state_again next before old) false event ≡ state_again next before old

  -- so it is with an event of the batch after those at the front of bytes, which begin at an offset
  pub record IsIdleAt (begin at : ℕ) (bytes : List ℕ) (old : S) : Type 0 where
    pub batches : List (List (List ℕ))
    pub frames : List ℕ
    pub are : AreFrames begin batches frames
    pub batch : List (List ℕ)
    pub frame : List ℕ
    pub is : IsFrame (begin + length frames) batch frame
    pub rest : List ℕ
    pub parts : bytes ≡ frames ++ (frame ++ rest)
    pub offset : ℕ
    pub event : IsIdleEvent offset (spelled batch) (state_again next (joined batches) old)
    pub place : at ≡ length (frames ++ is.sector ++ is.seal) + offset

  -- the batches at the front of bytes, which begin at an offset, led from one state to the other, and this rest stands after them; the
  -- last one begins here, and they are so many
  pub record AreDone (begin : ℕ) (bytes rest : List ℕ) (last count : ℕ) (old new : S) : Type 0 where
    pub batches : List (List (List ℕ))
    pub counted : count ≡ length batches
    pub frames : List ℕ
    pub are : AreFrames begin batches frames
    pub parts : bytes ≡ frames ++ rest
    pub gate : IsLast begin batches frames last
    pub leads : new ≡ state_again next (joined batches) old

  -- they take so many bytes, and no further batch follows
  pub record AreAllDone (begin : ℕ) (bytes : List ℕ) (taken last count : ℕ) (old new : S) : Type 0 where
    pub rest : List ℕ
    pub done : AreDone begin bytes rest last count old new
    pub nothing : BeginsNoBatch (begin + taken) rest
    pub size : taken ≡ length done.frames

  -- memory was wanting, or it is an event of those that bytes spell that isn't done again
  abbrev pub HaltsAtEvent : List ℕ → S → Halt → Type 0
  HaltsAtEvent bytes old Memory = Unit {0}
  HaltsAtEvent bytes old (Idle at) = IsIdleEvent at bytes old × (at ≤ length bytes)

  -- or of the batches that they are
  abbrev pub HaltsAtBatch : ℕ → List ℕ → S → Halt → Type 0
  HaltsAtBatch begin bytes old Memory = Unit {0}
  HaltsAtBatch begin bytes old (Idle at) = IsIdleAt begin at bytes old × (at ≤ length bytes)
