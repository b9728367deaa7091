-- What holds of a loop after each of its steps, and what its functions keep of it.
use Rattle.std.specs.Prelude.{ℕ, ◌≡◌, ◌<◌, ◌+◌, true, List, [], ◌∷◌, ◌++◌, if◌then◌else◌, drop, length, slice_index_or, slice_set}
use Rattle.stored_file.specs.Calls as calls
use Rattle.tcp_loop.specs.Trace.{Made, Trace}
use Rattle.tcp_loop.specs.Sockets.{came_on, has_come, life_on, written_on}
use Rattle.tcp_loop.specs.Disk.{calls_of, new_file}
use Rattle.tcp_loop.specs.Deeds.{AreDone, Deed, Meaning, life_of, received_on, sent_on}
use Rattle.tcp_loop.specs.Keeping.{KeptState}
use Rattle.tcp_loop.specs.Kept.{Attending, IsKept, Phase, Resting}
use Rattle.tcp_loop.specs.Attended.{IsAttended, IsAttendedTo, deeds_in, has_turn}
use Rattle.tcp_loop.specs.Clock.{time_of}
use Rattle.tcp_loop.specs.Times.{counted, ticked, was_for_file}
use Rattle.tcp_loop.specs.Timed.{IsTimed}
use Rattle.tcp_loop.specs.declared.clock.Clock.{Clock}
use Rattle.tcp_loop.specs.declared.operation.Answer.{Answer}
use Rattle.tcp_loop.specs.declared.stage.Part.{Part}
use Rattle.tcp_loop.specs.declared.stage.Stage.{Stage}
use Rattle.tcp_loop.specs.declared.stage.Stage.TheVariants as stage
use Rattle.tcp_loop.specs.declared.target.Call.{Call}

-- the bytes that came with an answer
abbrev pub piece_of : Answer → List ℕ → List ℕ
piece_of answer bytes = if has_come answer then bytes else []

-- how far a round has come by a phase, of which these deeds were done, and those before it
abbrev pub HasReached : Phase → Trace → (round before : List Deed) → Type 0
HasReached (Attending from) trace round before =
    (has_turn round ≡ true) × ((place : ℕ) → place < from → IsAttendedTo place (came_on place trace) round before)
HasReached _ trace round before = Unit {0}

-- waits ended rounds, and the one after the last wait has come so far
pub record IsInRound (phase : Phase) (trace : Trace) (deeds : List Deed) : Type 0 where
  pub attended : IsAttended trace deeds
  pub reached : HasReached phase trace attended.since (deeds_in attended.rounds)

module _ {State : Type 0} (m : Meaning State) where
  -- deeds led from the beginning to a state; what came on each connection was received, but for the bytes that wait; what was to be sent
  -- was written; connections began and ended as they did in the target; as much is on the disk as this phase says; the time is counted; and each
  -- connection was attended to in each round
  pub record Holds (opened : List calls.Call) (begun : State) (trace : Trace) (phase : Phase) (now : KeptState State)
      (waiting : List (List ℕ)) (clock : Clock) : Type 0 where
    pub deeds : List Deed
    pub done : AreDone m deeds begun now.state
    pub received : (place : ℕ) → place < 40 → came_on place trace ≡ received_on place deeds ++ slice_index_or waiting place []
    pub written : (place : ℕ) → place < 40 → written_on place trace ≡ sent_on m place deeds begun now.state done
    pub lives : (place : ℕ) → place < 40 → life_on place trace ≡ life_of place deeds
    pub kept : IsKept m phase (calls_of opened trace) (new_file trace) now.file deeds begun now.state done
    pub timed : IsTimed phase (counted trace) (ticked deeds) (was_for_file trace) (time_of trace) clock
    pub in_round : IsInRound phase trace deeds

  -- so it is still, whatever was done before
  abbrev pub Keeps : Phase → KeptState State → List (List ℕ) → Clock → Phase → KeptState State → List (List ℕ) → Clock → Type 0
  Keeps phase old waiting clock phase' new waiting' clock' =
      (opened : List calls.Call) (begun : State) (trace : Trace) → Holds opened begun trace phase old waiting clock
      → Holds opened begun trace phase' new waiting' clock'

  -- so it is once an operation is made
  abbrev pub Makes : Made → Phase → KeptState State → List (List ℕ) → Clock → Phase → KeptState State → List (List ℕ) → Clock → Type 0
  Makes made phase old waiting clock phase' new waiting' clock' =
      (opened : List calls.Call) (begun : State) (trace : Trace) → Holds opened begun trace phase old waiting clock
      → Holds opened begun (made ∷ trace) phase' new waiting' clock'

  -- so it is once so many of the bytes that wait on a connection are taken
  abbrev pub Takes : ℕ → List ℕ → ℕ → KeptState State → KeptState State → Type 0
  Takes number piece count old new = (waiting : List (List ℕ)) (clock : Clock) → number < length waiting
      → Keeps Resting old (slice_set waiting number piece) clock Resting new (slice_set waiting number (drop count piece)) clock

  -- a connection is attended to, of whose bytes so many were taken before, and so many are now
  abbrev pub Attends : ℕ → List ℕ → ℕ → ℕ → KeptState State → KeptState State → Type 0
  Attends number piece before count old new = (waiting : List (List ℕ)) (clock : Clock) → number < length waiting
      → Keeps (Attending number) old (slice_set waiting number (drop before piece)) clock
      (Attending (number + 1)) new (slice_set waiting number (drop count piece)) clock

  -- these are the bytes that the operation of a stage carries, where it carries some for a connection or a file
  pub record Carries (at_stage : Stage) (now : KeptState State) (bytes : List ℕ) : Type 0 where
    pub written : (place : ℕ) → at_stage ≡ stage.Writing place → bytes ≡ m.to_send place now.state
    pub called : (call : Call) → at_stage ≡ stage.Calling call → bytes ≡ now.file.bytes
    pub placed : (part : Part) → at_stage ≡ stage.Placing part → bytes ≡ now.file.bytes
