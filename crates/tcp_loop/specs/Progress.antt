-- How many operations a loop still makes until it waits or ends.
use Rattle.std.specs.Prelude.{ℕ, zero, suc, ◌≤◌, ◌<◌, ◌+◌, ◌-◌, ◌*◌, Bool, true, false, List, [], ◌∷◌, if◌then◌else◌}
use Rattle.tcp_loop.specs.Trace.{Trace}
use Rattle.tcp_loop.specs.Rounds.{flag}
use Rattle.tcp_loop.specs.declared.operation.Operation.{Operation}
use Rattle.tcp_loop.specs.declared.operation.Operation.TheVariants.{Create, Discard, End, Fsync, Ftruncate, Poll, Pwrite, Rename, SyncFolder}
use Rattle.tcp_loop.specs.declared.stage.Stage.{Stage}
use Rattle.tcp_loop.specs.declared.stage.Stage.TheVariants as stage

-- ---- the law

-- how many operations were made since the last wait, without those for the file, by the last one and where so many were before it; none
-- counts once the program has ended
abbrev pub since_wait_by : Operation → ℕ → ℕ
since_wait_by (Poll watched milliseconds) before = 0
since_wait_by (End done) before = 0
since_wait_by (Pwrite file «at») before = before
since_wait_by (Ftruncate len) before = before
since_wait_by (Fsync file) before = before
since_wait_by Create before = before
since_wait_by Rename before = before
since_wait_by SyncFolder before = before
since_wait_by Discard before = before
since_wait_by _ before = before + 1

abbrev pub since_wait : Trace → ℕ
since_wait [] = 0
since_wait (m ∷ trace) = since_wait_by m.asked (since_wait trace)

-- the most of them that a round has
abbrev pub most : ℕ
most = 718

-- no round ever had more: so whatever the world answers, a loop comes to its next wait, or ends, unless calls for the file go on forever
abbrev pub RoundsEnd : Trace → Type 0
RoundsEnd [] = Unit {0}
RoundsEnd (m ∷ trace) = (since_wait (m ∷ trace) ≤ most) × RoundsEnd trace

-- ---- the most of them that are left, from the end of a round to its beginning

-- a failure: the lines that wait are printed, at most 257 (256, and how many were dropped)
abbrev pub to_fail : ℕ
to_fail = 257

-- the next round begins, or the calls are made before the end and the time is asked for; each may fail
abbrev pub to_begin : ℕ
to_begin = 258

-- so many lines are printed
abbrev pub to_print : ℕ → ℕ
to_print lines = lines + to_begin

-- so many hosts are taken, and each is perhaps refused; and all lines are printed
abbrev pub to_take : ℕ → ℕ
to_take more = 2 * more + 515

-- of so many connections some are closed, and hosts are taken
abbrev pub to_close : ℕ → ℕ
to_close connections = connections + 595

-- connections from a place on are written, and some are closed
abbrev pub to_write : ℕ → ℕ
to_write from = (40 - from) + 635

-- the calls are made by which all is committed, the time is asked for, and connections are written
abbrev pub to_commit : ℕ
to_commit = 676

-- connections from a place on are read, the time is asked for, and all is committed
abbrev pub to_read : ℕ → ℕ
to_read from = (40 - from) + 677

-- calls are made: the last ones, or those of a round
abbrev pub to_call : Bool → ℕ
to_call finished = if finished then to_begin else to_commit

-- the time is asked for at which they were made
abbrev pub to_time : Bool → ℕ
to_time finished = if finished then 1 else to_commit

-- ---- where a loop stands

-- one where a flag is set
abbrev pub one_if : Bool → ℕ
one_if true = 1
one_if false = 0

-- at how many of the first so many places is there a connection?
abbrev pub open_below : ℕ → List Bool → ℕ
open_below zero there = 0
open_below (suc n) there = one_if (flag n there) + open_below n there

-- and at how many beside one?
abbrev pub open_but : ℕ → List Bool → ℕ
open_but place there = open_below 40 there - one_if (flag place there)

-- the most that are left at a stage, where connections are at these places, so many lines wait, and all is done before the end or isn't
abbrev pub left_of : Stage → List Bool → ℕ → Bool → ℕ
left_of (stage.Polling watched milliseconds) there lines finished = 0
left_of stage.Signalled there lines finished = most
left_of (stage.Reading place) there lines finished = to_read place
left_of stage.Timing there lines finished = to_commit + 1
left_of (stage.Calling call) there lines finished = to_call finished
left_of (stage.Placing part) there lines finished = to_call finished
left_of stage.Called there lines finished = to_time finished
left_of (stage.Writing place) there lines finished = to_write place
left_of (stage.Closing place) there lines finished = to_close (open_but place there) + 1
left_of (stage.Accepting place more) there lines finished = to_take more + 2
left_of (stage.Refusing more) there lines finished = to_take more + 1
left_of (stage.Telling cause fails) there lines finished = if fails then lines + 1 else to_print lines + 1
left_of (stage.Ended done) there lines finished = 0

-- fewer are left after an operation than before it; as many at most after one for the file; and after a wait those of a round
abbrev pub Falls : Operation → ℕ → ℕ → Type 0
Falls (Poll watched milliseconds) before after = after ≤ most
Falls (End done) before after = after ≤ before
Falls (Pwrite file «at») before after = after ≤ before
Falls (Ftruncate len) before after = after ≤ before
Falls (Fsync file) before after = after ≤ before
Falls Create before after = after ≤ before
Falls Rename before after = after ≤ before
Falls SyncFolder before after = after ≤ before
Falls Discard before after = after ≤ before
Falls _ before after = after < before

-- those that were made and those that are left are no more than a round has, and no round had more
pub record EndsRounds (trace : Trace) (left : ℕ) : Type 0 where
  pub few : since_wait trace + left ≤ most
  pub never_more : RoundsEnd trace
