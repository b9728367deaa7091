-- The command identifiers that the submissions of a command file have (profile).
use Rattle.std.specs.Prelude.{◌≡◌, ◌==◌, ◌<◌, ◌≤◌, ◌+◌, ◌^◌, ℕ, Bool, true, false, List, max, if◌then◌else◌, Option, Some, None}
use Rattle.std.specs.List.{filter_map, list_any, reduce}
use Rattle.device_events.specs.declared.event.Event.{Event}
use Rattle.device_events.specs.declared.event.Event.TheVariants as event
use Rattle.nvme_entry.specs.Entry.{identifier_of}

-- the identifier of an event that is a submission to this queue
abbrev pub identifier_in : ℕ → Event → Option ℕ
identifier_in queue (event.Submit own entry input) = if own == queue then Some (identifier_of entry) else None
identifier_in queue (event.Turn run) = None
identifier_in queue (event.Fault zone state) = None

-- those of the submissions to a queue, in order
abbrev pub identifiers : ℕ → List Event → List ℕ
identifiers queue events = filter_map (identifier_in queue) events

-- is an identifier among these?
abbrev pub is_used : ℕ → List ℕ → Bool
is_used cid used = list_any (λ other. other == cid) used

-- the lowest identifier that isn't among these; none where all are
abbrev pub IsLowestFree : List ℕ → Option ℕ → Type 0
IsLowestFree used (Some cid) = (is_used cid used ≡ false) × ((lower : ℕ) → lower < cid → is_used lower used ≡ true)
IsLowestFree used None = (number : ℕ) → number < 2 ^ 16 → is_used number used ≡ true

-- the one behind the highest: one more, or behind 65535 the lowest that isn't among these; where there is no highest it is 1
abbrev pub IsBehind : List ℕ → Option ℕ → Option ℕ → Type 0
IsBehind used None next = next ≡ Some 1
IsBehind used (Some highest) next =
    (highest < 65535 → next ≡ Some (highest + 1)) × (65535 ≤ highest → IsLowestFree used next)

-- the identifier that counts on from these
abbrev pub IsNextIdentifier : List ℕ → Option ℕ → Type 0
IsNextIdentifier used next = IsBehind used (reduce max used) next
