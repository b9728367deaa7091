-- The operation that a loop waits for, by where it is in its round.
use Rattle.std.specs.Prelude.{ℕ, Bool, true, false, ◌≡◌, ◌≤◌, ◌<◌, List, [], Option, Some, None, slice_index_or}
use Rattle.tcp_loop.specs.Keeping.{wanted_by}
use Rattle.tcp_loop.specs.declared.operation.Operation.{Operation}
use Rattle.tcp_loop.specs.declared.operation.Operation.TheVariants.{Accept, Close, Create, Discard, End, Fsync, Ftruncate, Log}
use Rattle.tcp_loop.specs.declared.operation.Operation.TheVariants.{Now, Poll, Pwrite, Read, Rename, Signal, SyncFolder, Write}
use Rattle.tcp_loop.specs.declared.operation.Which.TheVariants.{Beside, Held}
use Rattle.tcp_loop.specs.declared.stage.Part.{Part}
use Rattle.tcp_loop.specs.declared.stage.Part.TheVariants as part
use Rattle.tcp_loop.specs.declared.stage.Stage.{Stage}
use Rattle.tcp_loop.specs.declared.stage.Stage.TheVariants as stage
use Rattle.tcp_loop.specs.declared.target.Call.{Call}
use Rattle.tcp_loop.specs.declared.target.Call.TheVariants as call

abbrev pub operation_of_call : Call → Operation
operation_of_call (call.Write «at») = Pwrite Held «at»
operation_of_call (call.Renew «at») = Pwrite Held «at»
operation_of_call (call.Shorten len) = Ftruncate len
operation_of_call call.Sync = Fsync Held
operation_of_call call.Replace = Create
operation_of_call call.Want = Create

abbrev pub operation_of_part : Part → Operation
operation_of_part (part.Made wants) = Create
operation_of_part (part.Filled wants) = Pwrite Beside 0
operation_of_part (part.Flushed wants) = Fsync Beside
operation_of_part part.Named = Rename
operation_of_part part.Placed = SyncFolder
operation_of_part part.Discarded = Discard

abbrev pub operation_of : Stage → Operation
operation_of (stage.Polling watched milliseconds) = Poll watched milliseconds
operation_of stage.Signalled = Signal
operation_of (stage.Reading place) = Read place
operation_of stage.Timing = Now
operation_of (stage.Calling call) = operation_of_call call
operation_of (stage.Placing part) = operation_of_part part
operation_of stage.Called = Now
operation_of (stage.Writing place) = Write place
operation_of (stage.Closing place) = Close place
operation_of (stage.Accepting place more) = Accept place
operation_of (stage.Refusing more) = Close 40
operation_of (stage.Telling cause fails) = Log cause
operation_of (stage.Ended done) = End done

-- what is so while it is waited for: of the connections' bytes that aren't taken yet, and the number that is free
abbrev pub IsReady : Stage → List (List ℕ) → Option ℕ → Type 0
IsReady (stage.Reading place) waiting free = (place < 40) × (slice_index_or waiting place [] ≡ [])
IsReady (stage.Writing place) waiting free = place < 40
IsReady (stage.Closing place) waiting free = place < 40
IsReady (stage.Accepting place more) waiting free = (place < 40 → free ≡ Some place) × (40 ≤ place → free ≡ None)
IsReady (stage.Calling call) waiting free = wanted_by call ≡ None
IsReady _ waiting free = Unit {0}

-- does its operation move no bytes of connections, begin or close none that has a place, and tell no time?
abbrev pub is_quiet : Stage → Bool
is_quiet (stage.Reading place) = false
is_quiet (stage.Writing place) = false
is_quiet (stage.Accepting place more) = false
is_quiet (stage.Polling watched milliseconds) = true
is_quiet stage.Signalled = true
is_quiet stage.Timing = false
is_quiet (stage.Calling call) = true
is_quiet (stage.Placing part) = true
is_quiet stage.Called = false
is_quiet (stage.Closing place) = false
is_quiet (stage.Refusing more) = true
is_quiet (stage.Telling cause fails) = true
is_quiet (stage.Ended done) = true
