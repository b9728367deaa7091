-- Zones that fit a namespace, and the resources that they hold.
use Rattle.std.proofs.Common.{◌≡◌, ℕ, zero, suc, ◌<◌, true, List, [], ◌∷◌, length, get_or, set, Some, refl, ap, sym, subst, ◌∙◌, arith}
use Rattle.std.specs.Prelude.{slice_get, slice_set}
use Rattle.std.proofs.lemmas.Bool.Decides.{nat_tests}
use Rattle.std.proofs.lemmas.List.{length-map, length-set, get_or-map, map-set}
use Rattle.std.proofs.lemmas.Option.{slice_get-get_or}
use Rattle.zone_state.specs.State.{is_open}
use Rattle.zone_state.specs.Zone.{CountedZone, IsZone, kept}
use Rattle.zone_state.specs.declared.action.Action.{Action}
use Rattle.zone_state.specs.declared.action.Action.TheVariants as action
use Rattle.zone_state.specs.declared.state.ZoneState.{ZoneState}
use Rattle.zone_state.specs.declared.state.ZoneState.TheVariants.{Empty, ImplicitlyOpened, ExplicitlyOpened, Closed, ReadOnly, Full, Offline}
use Rattle.zone_resources.specs.Admission.{HoldsNoMore, IsWithin}
use Rattle.zone_resources.proofs.Proved.{release_keeps_limits}
use Rattle.common_definitions.specs.Bytes.{AreBytes}
use Rattle.image_store.specs.Geometry.{IsShape}
use Rattle.image_store.specs.Namespace.{ZoneWithBlocks, ZonedNamespace, no_zone, zone_at, with_zone, counted, shape, counted_zones, IsNamespace, IsWithinLimits}
use Rattle.image_store.proofs.Proved.{blocks_lie_in_zones, each_set, resized}
use Rattle.zns_commands.specs.Address.{counted_zone_at}
use Rattle.zns_commands.specs.Send.{led_to}

-- what holds of one zone: its state allows its blocks, and each of them is whole and of bytes
pub record FitsIn (block capacity : ℕ) (zone : ZoneWithBlocks) : Type 0 where
  pub state : IsZone zone.state (length zone.blocks) capacity
  pub whole : (i : ℕ) → i < length zone.blocks → length (get_or zone.blocks i []) ≡ block
  pub bytes : (i : ℕ) → AreBytes (get_or zone.blocks i [])

-- the empty list is one of bytes
pub no_bytes : AreBytes []
no_bytes i = omega arith

pub zone_fits : (ns : ZonedNamespace) (z : ℕ) → IsNamespace ns → z < length ns.zones → FitsIn ns.block ns.capacity (zone_at ns z)
zone_fits ns z sound inside = record { state = sound.fits z inside; whole = sound.whole z; bytes = sound.bytes z }

-- an action leads a zone to a state that fits the blocks which it keeps
pub action_fits : (a : Action) (s : ZoneState) (w c : ℕ) → IsZone s w c → IsZone (led_to a s) (kept (led_to a s) w) c
action_fits action.Close ImplicitlyOpened w c h = (h.0, grind (arith, nat_tests, h.1))
action_fits action.Finish Empty w c h = (h.0, grind (arith, nat_tests, h.1))
action_fits action.Finish ImplicitlyOpened w c h = (h.0, grind (arith, nat_tests, h.1))
action_fits action.Finish ExplicitlyOpened w c h = (h.0, grind (arith, nat_tests, h.1))
action_fits action.Finish Closed w c h = (h.0, grind (arith, nat_tests, h.1))
action_fits action.Open Empty w c h = (h.0, grind (arith, nat_tests, h.0, h.1))
action_fits action.Open ImplicitlyOpened w c h = (h.0, grind (arith, nat_tests, h.1))
action_fits action.Reset ImplicitlyOpened w c h = (h.0, refl)
action_fits action.Reset ExplicitlyOpened w c h = (h.0, refl)
action_fits action.Reset Closed w c h = (h.0, refl)
action_fits action.Reset Full w c h = (h.0, refl)
action_fits action.Offline ReadOnly w c h = (h.0, refl)
action_fits a Empty w c h = (h.0, refl)
action_fits a Offline w c h = (h.0, refl)
action_fits a s w c h = h

-- the same of each zone is the same of all of them
each_fits : (b c : ℕ) (zones : List ZoneWithBlocks) → ((z : ℕ) → z < length zones → FitsIn b c (get_or zones z no_zone))
    → (z i : ℕ) → i < length (get_or zones z no_zone).blocks → length (get_or (get_or zones z no_zone).blocks i []) ≡ b
each_fits b c zones all z i h = (all z (blocks_lie_in_zones zones z i h)).whole i h

each_bytes : (b c : ℕ) (zones : List ZoneWithBlocks) → ((z : ℕ) → z < length zones → FitsIn b c (get_or zones z no_zone))
    → (z i : ℕ) → AreBytes (get_or (get_or zones z no_zone).blocks i [])
each_bytes b c [] all z i = no_bytes
each_bytes b c (zone ∷ zones) all zero i = (all 0 (omega arith)).bytes i
each_bytes b c (zone ∷ zones) all (suc z) i = each_bytes b c zones (λ k inside. all (suc k) (omega arith)) z i

-- a namespace with other zones, as many of them
abbrev with_zones : ZonedNamespace → List ZoneWithBlocks → ZonedNamespace
with_zones ns zones = record ns { zones = zones }

pub namespace_of_zones : (ns : ZonedNamespace) (zones : List ZoneWithBlocks)
    → IsShape (shape ns) → length zones ≡ length ns.zones
    → ((z : ℕ) → z < length zones → FitsIn ns.block ns.capacity (get_or zones z no_zone))
    → IsWithinLimits (with_zones ns zones) → IsNamespace (with_zones ns zones)
namespace_of_zones ns zones known count all within = record {
  shape = subst (λ (n : ℕ). IsShape (resized (shape ns) n)) (sym count) known;
  fits = λ z inside. (all z inside).state;
  within = within;
  whole = each_fits ns.block ns.capacity zones all;
  bytes = each_bytes ns.block ns.capacity zones all;
}

-- a zone that fits, in the place of another, where the limits allow it
pub set_namespace : (ns : ZonedNamespace) (z : ℕ) (zone : ZoneWithBlocks)
    → IsNamespace ns → FitsIn ns.block ns.capacity zone → IsWithinLimits (with_zone ns z zone) → IsNamespace (with_zone ns z zone)
set_namespace ns z zone sound fits within =
    namespace_of_zones ns (set ns.zones z zone) sound.shape (length-set ns.zones z zone)
    (each_set no_zone (FitsIn ns.block ns.capacity) ns.zones z zone (λ y inside. zone_fits ns y sound inside) fits) within

pub counted_zone_there : (ns : ZonedNamespace) (z : ℕ) → z < length ns.zones → slice_get (counted_zones ns) z ≡ Some (counted_zone_at ns z)
counted_zone_there ns z inside =
    let c = ns.capacity in
    let within : z < length (counted_zones ns) = omega (arith, length-map ns.zones (counted c)) in
    slice_get-get_or (counted_zones ns) z (counted c no_zone) within ∙ ap Some (get_or-map (counted c) ns.zones z no_zone (counted c no_zone) inside)

pub counted_zones_with : (ns : ZonedNamespace) (z : ℕ) (zone : ZoneWithBlocks) → counted_zones (with_zone ns z zone) ≡ slice_set (counted_zones ns) z (counted ns.capacity zone)
counted_zones_with ns z zone = map-set (counted ns.capacity) ns.zones z zone

-- an open zone holds all resources that a zone can hold
pub open_holds : (is s : ZoneState) → is_open s ≡ true → HoldsNoMore is s
open_holds is Empty open_so = cc
open_holds is Closed open_so = cc
open_holds is ReadOnly open_so = cc
open_holds is Full open_so = cc
open_holds is Offline open_so = cc
open_holds Empty s open_so = record { opened = omega arith; active = omega arith }
open_holds is s open_so = record { opened = omega arith; active = omega arith }

-- one zone that comes into a state which holds no more
pub one_within : (ns : ZonedNamespace) (z : ℕ) (zone : ZoneWithBlocks) → z < length ns.zones → IsWithinLimits ns
    → HoldsNoMore zone.state (zone_at ns z).state → IsWithinLimits (with_zone ns z zone)
one_within ns z zone inside within less =
    subst (λ (zones : List CountedZone). IsWithin zones ns.limits) (sym (counted_zones_with ns z zone))
    (release_keeps_limits (counted_zones ns) ns.limits z (counted_zone_at ns z) (counted ns.capacity zone) within (counted_zone_there ns z inside) less)

pub one_sound : (ns : ZonedNamespace) (z : ℕ) (zone : ZoneWithBlocks) → IsNamespace ns → z < length ns.zones
    → FitsIn ns.block ns.capacity zone → HoldsNoMore zone.state (zone_at ns z).state → IsNamespace (with_zone ns z zone)
one_sound ns z zone sound inside fits less = set_namespace ns z zone sound fits (one_within ns z zone inside sound.within less)
