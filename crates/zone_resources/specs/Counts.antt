-- How many zones hold resources.
use Rattle.std.specs.Prelude.{ℕ, Bool, List, ◌≡◌, ◌<◌, ◌≤◌, ◌^◌, length, count_by, Some, slice_get, slice_set, if◌then◌else◌}
use Rattle.zone_resources.specs.declared.counts.Counts.{Counts}
use Rattle.zone_state.specs.State.{is_open, is_active}
use Rattle.zone_state.specs.Zone.{CountedZone}
use Rattle.zone_state.specs.declared.state.ZoneState.{ZoneState}

-- how many zones are of a state that passes a test
abbrev pub count_in : (ZoneState → Bool) → List CountedZone → ℕ
count_in test zones = count_by (λ z. test z.state) zones

-- how many zones hold an open resource (ZNS 1.1, 2.1.1)
abbrev pub open_count : List CountedZone → ℕ
open_count zones = count_in is_open zones

-- how many zones hold an active resource
abbrev pub active_count : List CountedZone → ℕ
active_count zones = count_in is_active zones

-- both numbers
abbrev pub counts_of : List CountedZone → Counts
counts_of zones = record { opened = open_count zones; active = active_count zones }

-- what one zone adds to a count that it is in, or is not
abbrev pub one_if : Bool → ℕ
one_if counted = if counted then 1 else 0

-- these are the counts of fewer than 2 ^ 64 zones, and one of the zones is of the state
pub record CountsOne (counts : Counts) (state : ZoneState) : Type 0 where
  pub zones : List CountedZone
  pub number : ℕ
  pub zone : CountedZone
  pub few : length zones < 2 ^ 64
  pub there : slice_get zones number ≡ Some zone
  pub same_state : zone.state ≡ state
  pub counted : counts ≡ counts_of zones

-- whatever zones the old counts are of, the new ones are of the same zones once any one that was of the
-- first state is of the second
abbrev pub MovesOne : Counts → Counts → ZoneState → ZoneState → Type 0
MovesOne old new from to =
    (zones : List CountedZone) (number : ℕ) (was is : CountedZone)
    → old ≡ counts_of zones → slice_get zones number ≡ Some was → was.state ≡ from → is.state ≡ to
    → new ≡ counts_of (slice_set zones number is)

-- no more zones are open than active, and no more are active than there are
abbrev pub CountsAreFew : Type 0
CountsAreFew = (zones : List CountedZone) → (open_count zones ≤ active_count zones) × (active_count zones ≤ length zones)
