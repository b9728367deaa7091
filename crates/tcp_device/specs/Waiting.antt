-- No run waits for a host to read.
use Rattle.std.specs.Prelude.{ℕ, ◌≡◌, ◌≤◌, ◌<◌, ◌+◌, ◌*◌, Bool, true, List, length, None, is_some, slice_index_or}
use Rattle.device_meaning.specs.State.{State}
use Rattle.tcp_admin.specs.Laws.{IsSubsystem}
use Rattle.tcp_admin.specs.declared.subsystem.NamespaceFormat.{NamespaceFormat}
use Rattle.tcp_admin.specs.declared.subsystem.Subsystem.{Subsystem}
use Rattle.tcp_device.specs.Deeds.{AreDone, Deed, Throughout}
use Rattle.tcp_device.specs.State.{ServedState, begun_on}
use Rattle.tcp_device.specs.Turning.{AtTurns, may_go, turns_in, turns_of}

-- deeds led to this state from the beginning of a target. Its device has 8 places for runs, and the names that it gives itself are as
-- long as their fields
pub record IsReached (s : ServedState) : Type 0 where
  pub device : State
  pub subsystem : Subsystem
  pub format : NamespaceFormat
  pub deeds : List Deed
  pub places : length device.places ≡ 8
  pub texts : IsSubsystem subsystem
  pub done : AreDone deeds (begun_on device subsystem format) s

-- a command of a host waits for the run's end
abbrev pub is_pending : ℕ → ServedState → Bool
is_pending run s = is_some (slice_index_or s.pending run None)

-- it does each time that a turn is given
abbrev pub IsPending : ℕ → (deeds : List Deed) (old new : ServedState) → AreDone deeds old new → Type 0
IsPending run deeds old new done = Throughout (AtTurns (λ s. is_pending run s ≡ true)) deeds old new done

pub record RunsGoOn : Type 0 where
  -- such a run may have the next turn: there is room for its completion, however much its host leaves unread
  pub go : (run : ℕ) (s : ServedState) → IsReached s → is_pending run s ≡ true → may_go run s ≡ true
  -- so of any 8 turns one is its own
  pub turns : (run : ℕ) (deeds : List Deed) (old new : ServedState) (done : AreDone deeds old new) → run < 8 → IsReached old
      → IsPending run deeds old new done → turns_in deeds ≤ 8 * turns_of run deeds old new done + 7
