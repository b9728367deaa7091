-- Each run that may go on has its turns, however many others do.
use Rattle.std.specs.Prelude.{ℕ, ◌≡◌, ◌≤◌, ◌<◌, ◌+◌, ◌*◌, ◌==◌, Bool, true, List, [], ◌∷◌, Option, None, Some, if◌then◌else◌, length, slice_index_or}
use Rattle.tcp_device.specs.Deeds.{AreDone, Deed, Does, Throughout, Turned}
use Rattle.tcp_device.specs.Served.{can_go, next_run}
use Rattle.tcp_device.specs.State.{ServedState, begun_on}
use Rattle.device_meaning.specs.State.{State}
use Rattle.tcp_admin.specs.declared.subsystem.NamespaceFormat.{NamespaceFormat}
use Rattle.tcp_admin.specs.declared.subsystem.Subsystem.{Subsystem}

-- the turns that a run is given where a turn is
abbrev pub turns_given : ℕ → Option ℕ → ℕ
turns_given run None = 0
turns_given run (Some other) = if run == other then 1 else 0

abbrev pub turns_by : ℕ → Deed → ServedState → ℕ
turns_by run Turned s = turns_given run (next_run s)
turns_by run _ s = 0

-- those that it is given by deeds
abbrev pub turns_of : ℕ → (deeds : List Deed) (old new : ServedState) → AreDone deeds old new → ℕ
turns_of run [] old new done = 0
turns_of run (deed ∷ deeds) old new done = turns_of run deeds old done.between done.first + turns_by run deed done.between

-- and all that are given, or might be
abbrev pub turn_in : Deed → ℕ
turn_in Turned = 1
turn_in _ = 0

abbrev pub turns_in : List Deed → ℕ
turns_in [] = 0
turns_in (deed ∷ deeds) = turns_in deeds + turn_in deed

-- may a run have a turn? It is active, and the connection of its command has room for a completion
abbrev pub may_go : ℕ → ServedState → Bool
may_go run s = can_go s.target (slice_index_or s.pending run None)

-- this holds of each state in which a turn is given
abbrev pub AtTurns : (ServedState → Type 0) → List Deed → Deed → ServedState → Type 0
AtTurns holds earlier Turned s = holds s
AtTurns holds earlier _ s = Unit {0}

-- it may each time that a turn is given
abbrev pub MayGo : ℕ → (deeds : List Deed) (old new : ServedState) → AreDone deeds old new → Type 0
MayGo run deeds old new done = Throughout (AtTurns (λ s. may_go run s ≡ true)) deeds old new done

-- a target has places for 8 runs, and looks at one of them next
pub record HasRuns (s : ServedState) : Type 0 where
  pub places : length s.pending ≡ 8
  pub next : s.next < 8

-- of any 8 turns one is that of a run which may have it each time: others pass before it 7 times at most, whatever else is done, and
-- whoever doesn't read
pub record RunsTakeTurns : Type 0 where
  pub begin : (device : State) (subsystem : Subsystem) (format : NamespaceFormat) → HasRuns (begun_on device subsystem format)
  pub stay : (deed : Deed) (old new : ServedState) → Does deed old new → HasRuns old → HasRuns new
  pub turns : (run : ℕ) → run < 8 → (deeds : List Deed) (old new : ServedState) (done : AreDone deeds old new) → HasRuns old
      → MayGo run deeds old new done → turns_in deeds ≤ 8 * turns_of run deeds old new done + 7
