-- Which zone gives way.
use Rattle.std.proofs.Common.{◌≡◌, ℕ, ◌<◌, ◌≤◌, Bool, true, false, cond, List, length, get_or, arith, Option, Some, None, refl, sym, ◌∙◌, zero-add}
use Rattle.std.specs.Prelude.{◌&&◌, not, position, slice_get, MatchOption}
use Rattle.std.specs.List.{enumerate_from, position_or_len}
use Rattle.std.proofs.lemmas.Bool.{ltb-false}
use Rattle.std.proofs.lemmas.List.FromFn.{length-enumerate_from, get_or-enumerate_from}
use Rattle.std.proofs.lemmas.List.Quantifiers.{position-Some}
use Rattle.std.proofs.lemmas.List.Sums.{fails_before_first}
use Rattle.std.proofs.lemmas.Option.{slice_get_within, get_or_from_slice_get, slice_get-get_or}
use Rattle.zone_state.specs.Zone.{CountedZone}
use Rattle.zone_state.specs.declared.state.ZoneState.{ZoneState}
use Rattle.zone_state.specs.declared.state.ZoneState.TheVariants.{Empty, ImplicitlyOpened, ExplicitlyOpened, Closed, ReadOnly, Full, Offline}
use Rattle.zone_resources.specs.Admission.{may_close, is_implicitly_opened, zone_to_close, IsClosable, ClosesTheLowest}
use Rattle.zone_resources.specs.Holds.{is_destination}
use Rattle.zone_resources.specs.declared.holds.Holds.{Holds}

-- a zone that may be closed passes the test, and only such a one does
passes : (s : ZoneState) (held : Bool) → s ≡ ImplicitlyOpened → held ≡ false → (is_implicitly_opened s && not held) ≡ true
passes s held e h = rw (e, h)

passed : (s : ZoneState) (held : Bool) → (is_implicitly_opened s && not held) ≡ true → (s ≡ ImplicitlyOpened) × (held ≡ false)
passed ImplicitlyOpened false e = (refl, refl)
passed ImplicitlyOpened true e = cc
passed Empty held e = cc
passed ExplicitlyOpened held e = cc
passed Closed held e = cc
passed ReadOnly held e = cc
passed Full held e = cc
passed Offline held e = cc

-- the test of a zone with its number
abbrev closable : Holds → ℕ × CountedZone → Bool
closable holds p = may_close holds p.0 p.1

-- the test of the zone at a number is that of its entry
closable-at : (holds : Holds) (zones : List CountedZone) (number : ℕ) (zone : CountedZone)
    → slice_get zones number ≡ Some zone
    → closable holds (get_or (enumerate_from 0 zones) number (0, zone)) ≡ may_close holds number zone
closable-at holds zones number zone there =
    let within : number < length zones = slice_get_within zones number zone there in
    let read : get_or zones number zone ≡ zone = get_or_from_slice_get zones number zone zone there in
    rw (get_or-enumerate_from 0 zones number (0, zone) within, read, zero-add)

-- where `position` finds nothing, nothing passes
none_at : (b : Bool) (i : ℕ) → cond b (Some i) None ≡ None → b ≡ false
none_at true i e = cc
none_at false i e = refl

position-None : {X : Type 0} (p : X → Bool) (xs : List X) → position p xs ≡ None
    → (k : ℕ) (d : X) → k < length xs → p (get_or xs k d) ≡ false
position-None p xs e k d within =
    let past : length xs ≤ position_or_len p xs = ltb-false _ _ (none_at _ _ e) in
    fails_before_first p xs k d (omega arith)

-- a zone that may be closed passes where it stands
closable-passes : (holds : Holds) (zones : List CountedZone) (number : ℕ) (h : IsClosable holds zones number)
    → closable holds (get_or (enumerate_from 0 zones) number (0, h.zone)) ≡ true
closable-passes holds zones number h =
    closable-at holds zones number h.zone h.there ∙ passes h.zone.state (is_destination holds number) h.implicitly_opened h.free

-- what is read behind the last zone
abbrev default_zone : CountedZone
default_zone = record { state = Empty; written = 0; capacity = 0 }

pub closes_at : (zones : List CountedZone) (holds : Holds) (found : Option ℕ) → zone_to_close holds zones ≡ found
    → MatchOption found
    ((number : ℕ) → ¬ IsClosable holds zones number)
    (λ lowest. IsClosable holds zones lowest × ((number : ℕ) → number < lowest → ¬ IsClosable holds zones number))
closes_at zones holds None e = λ number h.
    let within : number < length (enumerate_from 0 zones) =
    rw length-enumerate_from (slice_get_within zones number h.zone h.there) in
    let fails = position-None (closable holds) (enumerate_from 0 zones) e number (0, h.zone) within in
    let passes_there = closable-passes holds zones number h in
    cc
closes_at zones holds (Some lowest) e =
    let at = position-Some (closable holds) (enumerate_from 0 zones) lowest (0, default_zone) e in
    let within : lowest < length zones = rw length-enumerate_from at at.0 in
    let zone : CountedZone = get_or zones lowest default_zone in
    let there : slice_get zones lowest ≡ Some zone = slice_get-get_or zones lowest default_zone within in
    let first = position-Some (closable holds) (enumerate_from 0 zones) lowest (0, zone) e in
    let is = passed zone.state (is_destination holds lowest) (sym (closable-at holds zones lowest zone there) ∙ first.1) in (
      record { zone = zone; there = there; implicitly_opened = is.0; free = is.1 },
      λ number below h.
          let fails = (position-Some (closable holds) (enumerate_from 0 zones) lowest (0, h.zone) e).2 number below in
          let passes_there = closable-passes holds zones number h in
          cc,
    )

pub closes_the_lowest : ClosesTheLowest
closes_the_lowest zones holds = closes_at zones holds (zone_to_close holds zones) refl
