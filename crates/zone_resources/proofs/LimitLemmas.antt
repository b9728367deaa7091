-- Admission, and a zone that comes to hold no more, keep zones within their limits.
use Rattle.std.proofs.Common.{◌≡◌, ◌≢◌, ℕ, ◌+◌, ◌<◌, ◌≤◌, Bool, true, false, cond, List, length, arith, Option, Some, None, Ok, refl, sym, subst, ◌∙◌}
use Rattle.std.specs.Option.{ForSome}
use Rattle.std.specs.Prelude.{nat_lt, ok_or, option_map, slice_get, slice_set}
use Rattle.std.proofs.lemmas.Bool.{ltb-true}
use Rattle.std.proofs.lemmas.List.{length-set, get_or-set_other}
use Rattle.std.proofs.lemmas.Option.{slice_get_within, get_or_from_slice_get, slice_get_read}
use Rattle.zone_state.specs.State.{is_open, is_active}
use Rattle.zone_state.specs.Zone.{CountedZone, in_state}
use Rattle.zone_state.specs.declared.state.ZoneState.{ZoneState}
use Rattle.zone_state.specs.declared.state.ZoneState.TheVariants.{Empty, ImplicitlyOpened, ExplicitlyOpened, Closed, ReadOnly, Full, Offline}
use Rattle.zone_state.specs.declared.status.TheConstants.Status.{TOO_MANY_ACTIVE_ZONES, TOO_MANY_OPEN_ZONES}
use Rattle.common_definitions.proofs.Proved.{guarded}
use Rattle.zone_resources.proofs.AdmissionLemmas.{closes_at}
use Rattle.zone_resources.proofs.CountLemmas.{counts_follow_one}
use Rattle.zone_resources.specs.Admission.{admission, open_admission, zone_to_close, wanted_of, IsClosable, IsWithin, after_closing, AdmissionKeepsLimits, ReleaseKeepsLimits, IdleHoldsNoMore}
use Rattle.zone_resources.specs.Counts.{open_count, active_count, one_if}
use Rattle.zone_resources.specs.declared.admission.Limits.{Limits}
use Rattle.zone_resources.specs.declared.admission.Wanted.{Wanted}
use Rattle.zone_resources.specs.declared.admission.Wanted.TheVariants.{OpenOnly, OpenAndActive}
use Rattle.zone_resources.specs.declared.holds.Holds.{Holds}

-- an open resource is free after the close, and nothing else has changed
record HasRoom (zones after : List CountedZone) (limits : Limits) : Type 0 where
  opened : open_count after < limits.open_limit
  active : active_count after ≡ active_count zones
  others : (number : ℕ) (zone : CountedZone)
      → slice_get zones number ≡ Some zone → zone.state ≢ ImplicitlyOpened → slice_get after number ≡ Some zone

-- a zone is as it was where another one is set
slice_get-set_other : (zones : List CountedZone) (k number : ℕ) (is zone : CountedZone)
    → number ≢ k → slice_get zones number ≡ Some zone → slice_get (slice_set zones k is) number ≡ Some zone
slice_get-set_other zones k number is zone differs there =
    let within = slice_get_within zones number zone there in
    let read = get_or_from_slice_get zones number zone zone there in
    slice_get_read (slice_set zones k is) (length zones) number zone (sym (length-set zones k is)) within
    (sym (get_or-set_other zones k number is zone differs ∙ read))

-- closing an implicitly opened zone frees one open resource
room_of_closed : (zones : List CountedZone) (limits : Limits) (holds : Holds) (k : ℕ)
    → IsWithin zones limits → IsClosable holds zones k → HasRoom zones (after_closing (Some k) zones) limits
room_of_closed zones limits holds k within h =
    let follow = rw h.implicitly_opened at (counts_follow_one zones k h.zone (in_state Closed h.zone) h.there) in
    rw h.there (record {
      opened = omega (arith, follow.0, within.opened);
      active = omega (arith, follow.1);
      others = λ number zone there not_implicit.
          slice_get-set_other zones k number (in_state Closed h.zone) zone
          (λ (same : number ≡ k).
          let two : slice_get zones k ≡ Some zone = rw (← same) there in
          let one : zone ≡ h.zone = (let t = h.there in cc) in
          not_implicit (rw one h.implicitly_opened))
          there;
    })

-- an open resource is free where no zone gives way, and one that does may be closed
record CanOpen (zones : List CountedZone) (limits : Limits) (holds : Holds) (closed : Option ℕ) : Type 0 where
  pub free : closed ≡ None → open_count zones < limits.open_limit
  pub closable : ForSome closed (IsClosable holds zones)

can_open : (zones : List CountedZone) (limits : Limits) (holds : Holds) (closed : Option ℕ) (free : Bool) (found : Option ℕ)
    → nat_lt (open_count zones) limits.open_limit ≡ free → zone_to_close holds zones ≡ found
    → cond free (Ok None) (ok_or (option_map Some found) TOO_MANY_OPEN_ZONES) ≡ Ok closed → CanOpen zones limits holds closed
can_open zones limits holds closed true found is_free is_found admitted = record { free = λ none. ltb-true _ _ is_free; closable = λ k is. cc }
can_open zones limits holds closed false None is_free is_found admitted = cc
can_open zones limits holds closed false (Some k) is_free is_found admitted =
    let same : Some k ≡ closed = cc in
    subst (CanOpen zones limits holds) same (record {
      free = λ none. cc;
      closable = λ j is. let one : k ≡ j = cc in subst (IsClosable holds zones) one (closes_at zones holds (Some k) is_found).0;
    })

admitted_opens : (zones : List CountedZone) (limits : Limits) (holds : Holds) (closed : Option ℕ) → open_admission zones limits holds ≡ Ok closed
    → CanOpen zones limits holds closed
admitted_opens zones limits holds closed =
    can_open zones limits holds closed (nat_lt (open_count zones) limits.open_limit) (zone_to_close holds zones) refl refl

room_of_admission : (zones : List CountedZone) (limits : Limits) (holds : Holds) (closed : Option ℕ)
    → IsWithin zones limits → CanOpen zones limits holds closed → HasRoom zones (after_closing closed zones) limits
room_of_admission zones limits holds None within can = record { opened = can.free refl; active = refl; others = λ number zone there _. there }
room_of_admission zones limits holds (Some k) within can = room_of_closed zones limits holds k within (can.closable k refl)

-- one zone adds at most one to a count
pub one_if-le-one : (b : Bool) → one_if b ≤ 1
one_if-le-one true = omega arith
one_if-le-one false = omega arith

-- a zone that wants something is not open, and one that wants an open resource alone is active
pub record WantsIn (wanted : Wanted) (state : ZoneState) : Type 0 where
  pub not_open : state ≢ ImplicitlyOpened
  pub was_active : wanted ≡ OpenOnly → is_active state ≡ true

-- this holds of whatever a zone's state wants
pub wants : (state : ZoneState) (wanted : Wanted) → wanted_of state ≡ Some wanted → WantsIn wanted state
wants Empty wanted e = record { not_open = λ s. cc; was_active = λ o. cc }
wants Closed wanted e = record { not_open = λ s. cc; was_active = λ o. refl }
wants ImplicitlyOpened wanted e = cc
wants ExplicitlyOpened wanted e = cc
wants ReadOnly wanted e = cc
wants Full wanted e = cc
wants Offline wanted e = cc

-- what `admission` tests of the active limit
active_room : (zones : List CountedZone) (limits : Limits) (holds : Holds) (wanted : Wanted) (closed : Option ℕ)
    → admission zones limits holds wanted ≡ Ok closed
    → (open_admission zones limits holds ≡ Ok closed) × (wanted ≡ OpenAndActive → active_count zones < limits.active_limit)
active_room zones limits holds OpenOnly closed e = (e, λ o. cc)
active_room zones limits holds OpenAndActive closed e =
    let free = nat_lt (active_count zones) limits.active_limit in
    let passed = guarded free (open_admission zones limits holds) TOO_MANY_ACTIVE_ZONES closed e in
    (passed.1, λ _. ltb-true _ _ passed.0)

-- the zone that gives way may be closed
pub admitted_closable : (zones : List CountedZone) (limits : Limits) (holds : Holds) (wanted : Wanted) (closed : Option ℕ)
    → admission zones limits holds wanted ≡ Ok closed → ForSome closed (IsClosable holds zones)
admitted_closable zones limits holds wanted closed admitted =
    (admitted_opens zones limits holds closed (active_room zones limits holds wanted closed admitted).0).closable

-- the count of active zones stays within its limit
active_within : (wanted : Wanted) (was is : ZoneState) (before after limit : ℕ)
    → after + one_if (is_active was) ≡ before + one_if (is_active is) → before ≤ limit
    → (wanted ≡ OpenAndActive → before < limit) → (wanted ≡ OpenOnly → is_active was ≡ true)
    → after ≤ limit
active_within OpenAndActive was is before after limit follow within less active =
    let free = less refl in
    omega (arith, one_if-le-one (is_active is))
active_within OpenOnly was is before after limit follow within less active =
    let counted = rw (active refl) at follow in
    omega (arith, one_if-le-one (is_active is))

pub admission_keeps_limits : AdmissionKeepsLimits
admission_keeps_limits zones limits holds wanted closed within admitted =
    let tests = active_room zones limits holds wanted closed admitted in
    let room = room_of_admission zones limits holds closed within (admitted_opens zones limits holds closed tests.0) in (
      record { opened = omega (arith, room.opened); active = rw room.active within.active },
      λ number was is there wants_it.
          let want = wants was.state wanted wants_it in
          let follow = counts_follow_one (after_closing closed zones) number was is (room.others number was there want.not_open) in
          record {
            opened = omega (arith, follow.0, room.opened, one_if-le-one (is_open is.state));
            active =
                active_within wanted was.state is.state (active_count (after_closing closed zones)) _ limits.active_limit
                follow.1 (rw room.active within.active) (λ both. rw room.active (tests.1 both)) want.was_active;
          },
    )

pub release_keeps_limits : ReleaseKeepsLimits
release_keeps_limits zones limits number was is within there less =
    let follow = counts_follow_one zones number was is there in
    record { opened = omega (arith, follow.0, less.opened, within.opened); active = omega (arith, follow.1, less.active, within.active) }

pub idle_holds_no_more : IdleHoldsNoMore
idle_holds_no_more Empty was idle = record { opened = omega arith; active = omega arith }
idle_holds_no_more ImplicitlyOpened was idle = cc
idle_holds_no_more ExplicitlyOpened was idle = cc
idle_holds_no_more Closed was idle = cc
idle_holds_no_more ReadOnly was idle = record { opened = omega arith; active = omega arith }
idle_holds_no_more Full was idle = record { opened = omega arith; active = omega arith }
idle_holds_no_more Offline was idle = record { opened = omega arith; active = omega arith }
