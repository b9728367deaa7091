-- Whether a zone may take resources, and which zone gives way to it.
use Rattle.std.specs.Prelude.{ℕ, Bool, true, false, Option, Some, None, Result, Ok, Err, List, ◌≡◌, ◌<◌, ◌≤◌, ◌&&◌, not, nat_lt, if◌then◌else◌, ok_or, option_map, position, slice_get, slice_set, MatchOption}
use Rattle.std.specs.List.{enumerate_from}
use Rattle.zone_resources.specs.Counts.{open_count, active_count, one_if}
use Rattle.zone_resources.specs.Holds.{is_destination}
use Rattle.zone_resources.specs.declared.admission.Limits.{Limits}
use Rattle.zone_resources.specs.declared.admission.Wanted.{Wanted}
use Rattle.zone_resources.specs.declared.admission.Wanted.TheVariants.{OpenOnly, OpenAndActive}
use Rattle.zone_resources.specs.declared.holds.Holds.{Holds}
use Rattle.zone_state.specs.State.{is_open, is_active}
use Rattle.zone_state.specs.Zone.{CountedZone, in_state}
use Rattle.zone_state.specs.declared.state.ZoneState.{ZoneState}
use Rattle.zone_state.specs.declared.state.ZoneState.TheVariants.{Empty, ImplicitlyOpened, Closed}
use Rattle.zone_state.specs.declared.status.Status.{Status}
use Rattle.zone_state.specs.declared.status.TheConstants.Status.{TOO_MANY_ACTIVE_ZONES, TOO_MANY_OPEN_ZONES}

-- what a zone of the state wants so that it can be open (ZNS 1.1, 2.1.1)
abbrev pub wanted_of : ZoneState → Option Wanted
wanted_of Empty = Some OpenAndActive
wanted_of Closed = Some OpenOnly
wanted_of _ = None

-- was a zone of the state opened by a write?
abbrev pub is_implicitly_opened : ZoneState → Bool
is_implicitly_opened ImplicitlyOpened = true
is_implicitly_opened _ = false

-- may the zone of this number be closed to make room? (ZNS 1.1, 2.1.1: an
-- implicitly opened one; that it is no run's destination: profile)
abbrev pub may_close : Holds → ℕ → CountedZone → Bool
may_close holds number zone = is_implicitly_opened zone.state && not (is_destination holds number)

-- the lowest number of a zone that may be closed (profile)
abbrev pub zone_to_close : Holds → List CountedZone → Option ℕ
zone_to_close holds zones = position (λ p. may_close holds p.0 p.1) (enumerate_from 0 zones)

-- the zone to be closed for an open resource, if one has to be, or the status that says that none can be had
abbrev pub open_admission : List CountedZone → Limits → Holds → Result (Option ℕ) Status
open_admission zones limits holds =
    if nat_lt (open_count zones) limits.open_limit
    then Ok None
    else ok_or (option_map Some (zone_to_close holds zones)) TOO_MANY_OPEN_ZONES

-- the same for what is wanted, which is an active resource first (ZNS 1.1, 2.1.1; the order: profile)
abbrev pub admission : List CountedZone → Limits → Holds → Wanted → Result (Option ℕ) Status
admission zones limits holds OpenOnly = open_admission zones limits holds
admission zones limits holds OpenAndActive =
    if nat_lt (active_count zones) limits.active_limit
    then open_admission zones limits holds
    else Err TOO_MANY_ACTIVE_ZONES

-- the zone of this number may be closed
pub record IsClosable (holds : Holds) (zones : List CountedZone) (number : ℕ) : Type 0 where
  pub zone : CountedZone
  pub there : slice_get zones number ≡ Some zone
  pub implicitly_opened : zone.state ≡ ImplicitlyOpened
  pub free : is_destination holds number ≡ false

-- the zone that is told to be closed may be, and is the lowest that may; where none is told, none may be
abbrev pub ClosesTheLowest : Type 0
ClosesTheLowest =
    (zones : List CountedZone) (holds : Holds)
    → MatchOption (zone_to_close holds zones)
    ((number : ℕ) → ¬ IsClosable holds zones number)
    (λ lowest. IsClosable holds zones lowest × ((number : ℕ) → number < lowest → ¬ IsClosable holds zones number))

-- the zones, once the one of this number, where it was found, is closed
abbrev pub closed_in : List CountedZone → ℕ → Option CountedZone → List CountedZone
closed_in zones number None = zones
closed_in zones number (Some zone) = slice_set zones number (in_state Closed zone)

-- the zones, once the one that gives way, if one has to, is closed
abbrev pub after_closing : Option ℕ → List CountedZone → List CountedZone
after_closing None zones = zones
after_closing (Some number) zones = closed_in zones number (slice_get zones number)

-- no more zones are open or active than the limits allow
pub record IsWithin (zones : List CountedZone) (limits : Limits) : Type 0 where
  pub opened : open_count zones ≤ limits.open_limit
  pub active : active_count zones ≤ limits.active_limit

-- admission keeps zones within their limits: once the one that gives way is closed, and also once the
-- one that was admitted is in its new state
abbrev pub AdmissionKeepsLimits : Type 0
AdmissionKeepsLimits =
    (zones : List CountedZone) (limits : Limits) (holds : Holds) (wanted : Wanted) (closing : Option ℕ)
    → IsWithin zones limits → admission zones limits holds wanted ≡ Ok closing
    → IsWithin (after_closing closing zones) limits
    × ((number : ℕ) (was is : CountedZone)
    → slice_get zones number ≡ Some was → wanted_of was.state ≡ Some wanted
    → IsWithin (slice_set (after_closing closing zones) number is) limits)

-- a zone of the first state holds no resource that one of the second doesn't hold
pub record HoldsNoMore (is was : ZoneState) : Type 0 where
  pub opened : one_if (is_open is) ≤ one_if (is_open was)
  pub active : one_if (is_active is) ≤ one_if (is_active was)

-- zones within their limits stay so where one of them changes and holds no more than it did
abbrev pub ReleaseKeepsLimits : Type 0
ReleaseKeepsLimits =
    (zones : List CountedZone) (limits : Limits) (number : ℕ) (was is : CountedZone)
    → IsWithin zones limits → slice_get zones number ≡ Some was → HoldsNoMore is.state was.state
    → IsWithin (slice_set zones number is) limits

-- a zone of a state without resources holds no more than any other: a zone that is cleared, finished or
-- lost raises no count
abbrev pub IdleHoldsNoMore : Type 0
IdleHoldsNoMore = (is was : ZoneState) → is_active is ≡ false → HoldsNoMore is was
