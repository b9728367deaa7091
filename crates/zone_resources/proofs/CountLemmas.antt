-- Counts of zones, as one of them changes.
use Rattle.std.proofs.Common.{◌≡◌, ℕ, ◌+◌, ◌-◌, ◌<◌, ◌≤◌, ◌^◌, Bool, List, length, get_or, arith, Some}
use Rattle.std.specs.Prelude.{slice_get, slice_set}
use Rattle.std.proofs.lemmas.List.{length-set}
use Rattle.std.proofs.lemmas.List.Sums.{sum_by-set, sum_by-le-sum_by, get_or-le-sum_by, count_by-le-length}
use Rattle.std.proofs.lemmas.Option.{slice_get_within, get_or_from_slice_get}
use Rattle.zone_state.specs.State.{is_open, is_active}
use Rattle.zone_state.specs.Zone.{CountedZone}
use Rattle.zone_state.specs.declared.state.ZoneState.{ZoneState}
use Rattle.zone_state.specs.declared.state.ZoneState.TheVariants.{Empty, ImplicitlyOpened, ExplicitlyOpened, Closed, ReadOnly, Full, Offline}
use Rattle.zone_resources.specs.Counts.{active_count, count_in, one_if, open_count, CountsOne, MovesOne, CountsAreFew}
use Rattle.zone_resources.specs.declared.counts.Counts.{Counts}

-- the count loses what the zone was, and gains what it is
count_in-set : (test : ZoneState → Bool) (zones : List CountedZone) (number : ℕ) (was is : CountedZone)
    → slice_get zones number ≡ Some was
    → count_in test (slice_set zones number is) + one_if (test was.state) ≡ count_in test zones + one_if (test is.state)
count_in-set test zones number was is there =
    let within : number < length zones = slice_get_within zones number was there in
    let read : get_or zones number was ≡ was = get_or_from_slice_get zones number was was there in
    rw read at (sum_by-set (λ z. one_if (test z.state)) zones number is was within)

-- each zone is in the count that it is counted in
pub one_if-le-count_in : (test : ZoneState → Bool) (zones : List CountedZone) (number : ℕ) (was : CountedZone)
    → slice_get zones number ≡ Some was → one_if (test was.state) ≤ count_in test zones
one_if-le-count_in test zones number was there =
    let within : number < length zones = slice_get_within zones number was there in
    let read : get_or zones number was ≡ was = get_or_from_slice_get zones number was was there in
    rw read at (get_or-le-sum_by (λ z. one_if (test z.state)) zones number was within)

-- the count does not grow past the number of zones
count_in-fits : (test : ZoneState → Bool) (zones : List CountedZone) (number : ℕ) (was : CountedZone) (to : ZoneState)
    → slice_get zones number ≡ Some was
    → (count_in test zones - one_if (test was.state)) + one_if (test to) ≤ length zones
count_in-fits test zones number was to there =
    let is : CountedZone = record was { state = to } in
    let after = count_in-set test zones number was is there in
    let few = count_by-le-length (λ (z : CountedZone). test z.state) (slice_set zones number is) in
    omega (arith, one_if-le-count_in test zones number was there, length-set zones number is)

-- where one zone changes, the counts lose what it was and gain what it is
pub counts_follow_one : (zones : List CountedZone) (number : ℕ) (was is : CountedZone) → slice_get zones number ≡ Some was
    → (open_count (slice_set zones number is) + one_if (is_open was.state) ≡ open_count zones + one_if (is_open is.state))
    × (active_count (slice_set zones number is) + one_if (is_active was.state) ≡ active_count zones + one_if (is_active is.state))
counts_follow_one zones number was is there =
    (count_in-set is_open zones number was is there, count_in-set is_active zones number was is there)

-- an open state is active
open-le-active : (s : ZoneState) → one_if (is_open s) ≤ one_if (is_active s)
open-le-active Empty = omega arith
open-le-active ImplicitlyOpened = omega arith
open-le-active ExplicitlyOpened = omega arith
open-le-active Closed = omega arith
open-le-active ReadOnly = omega arith
open-le-active Full = omega arith
open-le-active Offline = omega arith

pub counts_are_few : CountsAreFew
counts_are_few zones = (
  sum_by-le-sum_by (λ z. one_if (is_open z.state)) (λ z. one_if (is_active z.state)) zones (λ z. open-le-active z.state),
  count_by-le-length (λ z. is_active z.state) zones,
)

-- a zone that is counted is in the counts, and another state of it fits there
pub open_counted : (counts : Counts) (from : ZoneState) → CountsOne counts from → one_if (is_open from) ≤ counts.opened
open_counted counts from h =
    rw (h.counted, ← h.same_state) (one_if-le-count_in is_open h.zones h.number h.zone h.there)

pub active_counted : (counts : Counts) (from : ZoneState) → CountsOne counts from → one_if (is_active from) ≤ counts.active
active_counted counts from h =
    rw (h.counted, ← h.same_state) (one_if-le-count_in is_active h.zones h.number h.zone h.there)

pub open_fits : (counts : Counts) (from to : ZoneState)
    → CountsOne counts from → (counts.opened - one_if (is_open from)) + one_if (is_open to) < 2 ^ 64
open_fits counts from to h =
    rw (h.counted, ← h.same_state) (omega (arith, h.few, count_in-fits is_open h.zones h.number h.zone to h.there))

pub active_fits : (counts : Counts) (from to : ZoneState)
    → CountsOne counts from → (counts.active - one_if (is_active from)) + one_if (is_active to) < 2 ^ 64
active_fits counts from to h =
    rw (h.counted, ← h.same_state) (omega (arith, h.few, count_in-fits is_active h.zones h.number h.zone to h.there))

-- the counts, where one zone that they count has come into another state
abbrev pub moved : Counts → ZoneState → ZoneState → Counts
moved counts from to = record {
  opened = (counts.opened - one_if (is_open from)) + one_if (is_open to);
  active = (counts.active - one_if (is_active from)) + one_if (is_active to);
}

-- what is left of a sum of two, one of which is taken off and another put on
taken_off : (after was before is : ℕ) → after + was ≡ before + is → was ≤ before → (before - was) + is ≡ after
taken_off after was before is e h = omega arith

pub moves_one : (counts : Counts) (from to : ZoneState) → MovesOne counts (moved counts from to) from to
moves_one counts from to zones number was is counted there was_from is_to =
    let follow = counts_follow_one zones number was is there in
    let opened = taken_off _ _ _ _ follow.0 (one_if-le-count_in is_open zones number was there) in
    let active = taken_off _ _ _ _ follow.1 (one_if-le-count_in is_active zones number was there) in
    rw (counted, ← was_from, ← is_to, opened, active)

-- what a move of one counted zone rests on
pub ruleset moving = (open_counted, active_counted, open_fits, active_fits, moves_one)
