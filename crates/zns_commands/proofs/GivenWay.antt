-- Namespaces in which a zone gave way to another.
use Rattle.std.proofs.Common.{◌≡◌, ◌≢◌, ℕ, ◌<◌, List, length, Option, Some, None, Ok, refl, ap, sym, subst, ◌∙◌, get_or-set_other}
use Rattle.std.specs.Prelude.{slice_set}
use Rattle.std.specs.Option.{ForSome}
use Rattle.zone_state.specs.State.{is_open}
use Rattle.zone_state.specs.Zone.{CountedZone, IsZone}
use Rattle.zone_state.specs.declared.action.Action.TheVariants as action
use Rattle.zone_state.specs.declared.state.ZoneState.{ZoneState}
use Rattle.zone_state.specs.declared.state.ZoneState.TheVariants.{ImplicitlyOpened, Closed}
use Rattle.zone_resources.specs.Admission.{wanted_of, IsClosable, IsWithin, HoldsNoMore, after_closing, closed_in}
use Rattle.zone_resources.specs.declared.admission.Wanted.{Wanted}
use Rattle.zone_resources.specs.declared.holds.Holds.{Holds}
use Rattle.zone_resources.proofs.Proved.{admission_keeps_limits, admitted_closable}
use Rattle.image_store.specs.Blocks.{as_blocks}
use Rattle.image_store.specs.Namespace.{ZoneWithBlocks, ZonedNamespace, no_zone, zone_at, with_zone, counted, grown, counted_zones, IsNamespace, IsWithinLimits, arrived, with_state}
use Rattle.zns_commands.specs.Address.{counted_zone_at}
use Rattle.zns_commands.specs.Resources.{room_for, closed}
use Rattle.zns_commands.specs.steps.Accepted.{CanGiveWay}
use Rattle.zns_commands.specs.steps.Plans.{room_by, written_by}
use Rattle.zns_commands.proofs.ClosableZones.{closable_zone, closable_state, other_zone}
use Rattle.zns_commands.proofs.FittingZones.{FitsIn, action_fits, set_namespace, counted_zone_there, counted_zones_with, one_within, open_holds}

-- the counted zones, once the zone that gives way is closed
closed_with_within : (ns : ZonedNamespace) (z : ℕ) (zone : ZoneWithBlocks) (gives : Option ℕ) → ForSome gives (λ k. k < length ns.zones)
    → IsWithin (slice_set (after_closing gives (counted_zones ns)) z (counted ns.capacity zone)) ns.limits
    → IsWithin (counted_zones (with_zone (closed ns gives) z zone)) (closed ns gives).limits
closed_with_within ns z zone None inside within =
    subst (λ (zones : List CountedZone). IsWithin zones ns.limits) (sym (counted_zones_with ns z zone)) within
closed_with_within ns z zone (Some k) inside within =
    let given = arrived Closed (zone_at ns k) in
    let there = counted_zone_there ns k (inside k refl) in
    subst (λ (zones : List CountedZone). IsWithin zones ns.limits)
    (ap (λ (r : Option CountedZone). slice_set (closed_in (counted_zones ns) k r) z (counted ns.capacity zone)) there
    ∙ (ap (λ (zones : List CountedZone). slice_set zones z (counted ns.capacity zone)) (sym (counted_zones_with ns k given))
    ∙ sym (counted_zones_with (with_zone ns k given) z zone)))
    within

-- its close leaves the limits kept
closed_limits : (ns : ZonedNamespace) (holds : Holds) (gives : Option ℕ) → IsNamespace ns
    → ForSome gives (IsClosable holds (counted_zones ns)) → IsWithinLimits (closed ns gives)
closed_limits ns holds None sound closable = sound.within
closed_limits ns holds (Some k) sound closable =
    let may = closable k refl in
    one_within ns k (arrived Closed (zone_at ns k)) (closable_zone ns holds k may) sound.within
    (open_holds Closed (zone_at ns k).state (ap is_open (closable_state ns holds k may)))

can_give_way : (ns : ZonedNamespace) (holds : Holds) (zone : ℕ) (wanted : Wanted) (gives : Option ℕ) → IsNamespace ns
    → wanted_of (zone_at ns zone).state ≡ Some wanted → ForSome gives (IsClosable holds (counted_zones ns)) → CanGiveWay ns zone gives
can_give_way ns holds zone wanted gives sound wants closable = record {
  inside = λ z is. closable_zone ns holds z (closable z is);
  fits = λ z is.
      let may = closable z is in
      let written = length (zone_at ns z).blocks in
      action_fits action.Close ImplicitlyOpened written ns.capacity
      (subst (λ (s : ZoneState). IsZone s written ns.capacity) (closable_state ns holds z may) (sound.fits z (closable_zone ns holds z may)));
  other = λ is. other_zone ns holds zone wanted zone wants (closable zone is) refl;
  limits = closed_limits ns holds gives sound closable;
}

pub no_one_gives_way : (ns : ZonedNamespace) (zone : ℕ) → IsNamespace ns → CanGiveWay ns zone None
no_one_gives_way ns zone sound = record {
  inside = λ z is. cc;
  fits = λ z is. cc;
  other = λ is. cc;
  limits = sound.within;
}

-- a namespace in which a zone gave way
closed_namespace : (ns : ZonedNamespace) (z : ℕ) (gives : Option ℕ) → IsNamespace ns → CanGiveWay ns z gives → IsNamespace (closed ns gives)
closed_namespace ns z None sound give = sound
closed_namespace ns z (Some k) sound give =
    set_namespace ns k (arrived Closed (zone_at ns k)) sound
    (record { state = give.fits k refl; whole = sound.whole k; bytes = sound.bytes k }) give.limits

closed_fit : (ns : ZonedNamespace) (gives : Option ℕ) (zone : ZoneWithBlocks) → FitsIn ns.block ns.capacity zone
    → FitsIn (closed ns gives).block (closed ns gives).capacity zone
closed_fit ns None zone fits = fits
closed_fit ns (Some k) zone fits = fits

-- room for a zone: the limits then allow it any state, or where it wants none, each that holds no more
pub record HasRoom (ns : ZonedNamespace) (z : ℕ) (gives : Option ℕ) : Type 0 where
  pub give : CanGiveWay ns z gives
  pub limits : (zone : ZoneWithBlocks)
      → (wanted_of (zone_at ns z).state ≡ None → HoldsNoMore zone.state (zone_at ns z).state)
      → IsWithinLimits (with_zone (closed ns gives) z zone)

room_of_wanted : (ns : ZonedNamespace) (holds : Holds) (z : ℕ) (gives : Option ℕ) (wanted : Option Wanted)
    → IsNamespace ns → z < length ns.zones → wanted_of (zone_at ns z).state ≡ wanted → room_by ns holds wanted ≡ Ok gives → HasRoom ns z gives
room_of_wanted ns holds z gives None sound inside wants room =
    let none : None ≡ gives = cc in
    subst (HasRoom ns z) none (record {
      give = no_one_gives_way ns z sound;
      limits = λ zone less. one_within ns z zone inside sound.within (less wants);
    })
room_of_wanted ns holds z gives (Some wanted) sound inside wants room =
    let closable = admitted_closable (counted_zones ns) ns.limits holds wanted gives room in
    let give = can_give_way ns holds z wanted gives sound wants closable in
    let keeps = admission_keeps_limits (counted_zones ns) ns.limits holds wanted gives sound.within room in
    record {
      give = give;
      limits = λ zone less.
          closed_with_within ns z zone gives give.inside
          (keeps.1 z (counted_zone_at ns z) (counted ns.capacity zone) (counted_zone_there ns z inside) wants);
    }

pub has_room : (ns : ZonedNamespace) (holds : Holds) (z : ℕ) (gives : Option ℕ)
    → IsNamespace ns → z < length ns.zones → room_for ns holds (zone_at ns z).state ≡ Ok gives → HasRoom ns z gives
has_room ns holds z gives sound inside room =
    room_of_wanted ns holds z gives (wanted_of (zone_at ns z).state) sound inside refl room

-- any state that fits the zone then leaves a namespace
pub room_sound : (ns : ZonedNamespace) (z : ℕ) (gives : Option ℕ) (zone : ZoneWithBlocks) → IsNamespace ns → HasRoom ns z gives
    → FitsIn ns.block ns.capacity zone → (wanted_of (zone_at ns z).state ≡ None → HoldsNoMore zone.state (zone_at ns z).state)
    → IsNamespace (with_zone (closed ns gives) z zone)
room_sound ns z gives zone sound has fits less =
    set_namespace (closed ns gives) z zone (closed_namespace ns z gives sound has.give) (closed_fit ns gives zone fits) (has.limits zone less)

-- the zone that gives way is another one
pub closed_zone : (ns : ZonedNamespace) (z : ℕ) (gives : Option ℕ) → gives ≢ Some z → zone_at (closed ns gives) z ≡ zone_at ns z
closed_zone ns z None other = refl
closed_zone ns z (Some k) other =
    get_or-set_other ns.zones k z (arrived Closed (zone_at ns k)) no_zone (λ (same : z ≡ k). other (ap Some (sym same)))

pub written_is : (ns : ZonedNamespace) (z : ℕ) (gives : Option ℕ) (input : List ℕ) → gives ≢ Some z
    → written_by ns (record { zone = z; closing = gives }) input ≡ with_zone (closed ns gives) z (grown ns.capacity (zone_at ns z) (as_blocks ns.block input))
written_is ns z None input other = refl
written_is ns z (Some k) input other =
    ap (λ (zone : ZoneWithBlocks). with_zone (closed ns (Some k)) z (grown ns.capacity zone (as_blocks ns.block input))) (closed_zone ns z (Some k) other)

pub moved_is : (ns : ZonedNamespace) (z : ℕ) (gives : Option ℕ) (to : ZoneState) → gives ≢ Some z
    → with_state (closed ns gives) z to ≡ with_zone (closed ns gives) z (arrived to (zone_at ns z))
moved_is ns z gives to other = ap (λ (zone : ZoneWithBlocks). with_zone (closed ns gives) z (arrived to zone)) (closed_zone ns z gives other)
