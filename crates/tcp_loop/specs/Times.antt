-- The time that a loop lets its target count.
use Rattle.std.specs.Prelude.{ℕ, Bool, true, false, ◌≤◌, ◌<◌, ◌+◌, ◌-◌, ◌*◌, ◌==◌, ◌||◌, List, [], ◌∷◌, if◌then◌else◌, min}
use Rattle.tcp_loop.specs.Trace.{Trace}
use Rattle.tcp_loop.specs.Clock.{time_of}
use Rattle.tcp_loop.specs.Deeds.{Closed, Deed, Opened, Received, Resumed, Sent, Served, Ticked, Turned}
use Rattle.tcp_loop.specs.declared.operation.Answer.{Answer}
use Rattle.tcp_loop.specs.declared.operation.Answer.TheVariants.{Time}
use Rattle.tcp_loop.specs.declared.operation.Operation.{Operation}
use Rattle.tcp_loop.specs.declared.operation.Operation.TheVariants.{Create, Discard, Fsync, Ftruncate, Now, Pwrite, Rename, SyncFolder}

-- was an operation for the file made since the time was told last?
abbrev pub for_file_by : Operation → Answer → Bool → Bool
for_file_by Now (Time now) before = false
for_file_by (Pwrite file «at») answer before = true
for_file_by (Ftruncate len) answer before = true
for_file_by (Fsync file) answer before = true
for_file_by Create answer before = true
for_file_by Rename answer before = true
for_file_by SyncFolder answer before = true
for_file_by Discard answer before = true
for_file_by _ _ before = before

abbrev pub was_for_file : Trace → Bool
was_for_file [] = false
was_for_file (m ∷ trace) = for_file_by m.asked m.answer (was_for_file trace)

-- the microseconds from a time to the next for which hosts might have been heard: none where the file had an operation in between, or there
-- was no time before; and no more than the second that a wait takes
abbrev pub gone : Bool → ℕ → ℕ → ℕ
gone for_file last now = if for_file || last == 0 then 0 else min (now - last) 1000000

abbrev pub counted_by : Operation → Answer → Bool → ℕ → ℕ → ℕ
counted_by Now (Time now) for_file last before = before + gone for_file last now
counted_by _ _ for_file last before = before

abbrev pub counted : Trace → ℕ
counted [] = 0
counted (m ∷ trace) = counted_by m.asked m.answer (was_for_file trace) (time_of trace) (counted trace)

-- the milliseconds that the target was let count
abbrev pub ticked : List Deed → ℕ
ticked [] = 0
ticked (Ticked milliseconds ∷ deeds) = ticked deeds + milliseconds
ticked (Opened number ∷ deeds) = ticked deeds
ticked (Received number piece count ∷ deeds) = ticked deeds
ticked (Sent number count ∷ deeds) = ticked deeds
ticked (Closed number ∷ deeds) = ticked deeds
ticked (Served number ∷ deeds) = ticked deeds
ticked (Turned ∷ deeds) = ticked deeds
ticked (Resumed run ∷ deeds) = ticked deeds

-- it counts no more, and all but two seconds
pub record TicksAreTime (trace : Trace) (deeds : List Deed) : Type 0 where
  pub no_more : ticked deeds * 1000 ≤ counted trace
  pub no_less : counted trace < ticked deeds * 1000 + 2000000
