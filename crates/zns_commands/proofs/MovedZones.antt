-- That actions on one zone and faults keep a namespace sound.
use Rattle.std.proofs.Common.{◌≡◌, ℕ, ◌<◌, Bool, true, false, length, Option, None, Result, Ok, Err, refl, sym, subst, arith}
use Rattle.std.proofs.lemmas.Bool.{le-leb}
use Rattle.zone_state.specs.Zone.{IsZone, kept, state_of_fault}
use Rattle.zone_state.specs.declared.action.Action.{Action}
use Rattle.zone_state.specs.declared.action.Action.TheVariants as action
use Rattle.zone_state.specs.declared.state.FaultState.{FaultState}
use Rattle.zone_state.specs.declared.state.FaultState.TheVariants as fault
use Rattle.zone_state.specs.declared.state.ZoneState.{ZoneState}
use Rattle.zone_state.specs.declared.state.ZoneState.TheVariants.{Empty, ImplicitlyOpened, Closed, ReadOnly, Offline}
use Rattle.zone_state.specs.declared.zone.FaultRefused.{FaultRefused}
use Rattle.zone_resources.specs.Admission.{wanted_of, HoldsNoMore}
use Rattle.zone_resources.specs.declared.holds.Holds.{Holds}
use Rattle.zone_resources.proofs.Proved.{idle_holds_no_more}
use Rattle.image_store.specs.Namespace.{ZoneWithBlocks, ZonedNamespace, zone_at, IsNamespace, arrived, with_state}
use Rattle.image_store.proofs.Proved.{written_is_within}
use Rattle.zns_commands.specs.Fault.{zone_fault_refusal, faulted_by, faulted}
use Rattle.zns_commands.specs.Resources.{closed}
use Rattle.zns_commands.specs.steps.Plans.{room_by}
use Rattle.zns_commands.specs.Send.{room_of, led_to}
use Rattle.zns_commands.proofs.FittingZones.{FitsIn, action_fits, no_bytes, zone_fits, one_sound}
use Rattle.zns_commands.proofs.GivenWay.{has_room, room_sound, moved_is}
use Rattle.zns_commands.proofs.PassedChecks.{taken_fault}

-- a zone that comes into a state
pub arrived_fits : (b c : ℕ) (to : ZoneState) (zone : ZoneWithBlocks)
    → FitsIn b c zone → IsZone to (kept to (length zone.blocks)) c → FitsIn b c (arrived to zone)
arrived_fits b c Empty zone fits is = record { state = is; whole = λ i h. absurd (omega arith); bytes = λ i. no_bytes }
arrived_fits b c Offline zone fits is = record { state = is; whole = λ i h. absurd (omega arith); bytes = λ i. no_bytes }
arrived_fits b c to zone fits is = record { state = is; whole = fits.whole; bytes = fits.bytes }

action_zone_fits : (ns : ZonedNamespace) (z : ℕ) (a : Action) → IsNamespace ns → z < length ns.zones
    → FitsIn ns.block ns.capacity (arrived (led_to a (zone_at ns z).state) (zone_at ns z))
action_zone_fits ns z a sound inside =
    let zone = zone_at ns z in
    arrived_fits ns.block ns.capacity (led_to a zone.state) zone (zone_fits ns z sound inside)
    (action_fits a zone.state (length zone.blocks) ns.capacity (sound.fits z inside))

holds_same : (s : ZoneState) → HoldsNoMore s s
holds_same s = record { opened = omega arith; active = omega arith }

open_takes_none : (s : ZoneState) → wanted_of s ≡ None → HoldsNoMore (led_to action.Open s) s
open_takes_none Empty none = cc
open_takes_none Closed none = cc
open_takes_none ImplicitlyOpened none = record { opened = omega arith; active = omega arith }
open_takes_none s none = holds_same s

-- does an action take resources?
abbrev takes_resources : Action → Bool
takes_resources action.Open = true
takes_resources _ = false

takes_none : (a : Action) (s : ZoneState) → takes_resources a ≡ false → HoldsNoMore (led_to a s) s
takes_none action.Open s none = cc
takes_none action.Close Empty none = record { opened = omega arith; active = omega arith }
takes_none action.Finish Empty none = record { opened = omega arith; active = omega arith }
takes_none action.Reset Empty none = record { opened = omega arith; active = omega arith }
takes_none action.Offline Empty none = record { opened = omega arith; active = omega arith }
takes_none a s none = record { opened = omega arith; active = omega arith }

no_room_sound : (ns : ZonedNamespace) (holds : Holds) (z : ℕ) (a : Action) (gives : Option ℕ) → IsNamespace ns → z < length ns.zones
    → takes_resources a ≡ false → room_by ns holds None ≡ Ok gives → IsNamespace (with_state (closed ns gives) z (led_to a (zone_at ns z).state))
no_room_sound ns holds z a gives sound inside none room =
    let zone = zone_at ns z in
    let same : None ≡ gives = cc in
    subst (λ (g : Option ℕ). IsNamespace (with_state (closed ns g) z (led_to a zone.state))) same
    (one_sound ns z (arrived (led_to a zone.state) zone) sound inside (action_zone_fits ns z a sound inside)
    (takes_none a zone.state none))

pub moved_sound : (ns : ZonedNamespace) (holds : Holds) (z : ℕ) (a : Action) (gives : Option ℕ) → IsNamespace ns → z < length ns.zones
    → room_of ns holds a (zone_at ns z).state ≡ Ok gives → IsNamespace (with_state (closed ns gives) z (led_to a (zone_at ns z).state))
moved_sound ns holds z action.Open gives sound inside room =
    let zone = zone_at ns z in
    let to = led_to action.Open zone.state in
    let has = has_room ns holds z gives sound inside room in
    subst IsNamespace (sym (moved_is ns z gives to has.give.other))
    (room_sound ns z gives (arrived to zone) sound has (action_zone_fits ns z action.Open sound inside)
    (λ none. open_takes_none zone.state none))
moved_sound ns holds z action.Close gives sound inside room = no_room_sound ns holds z action.Close gives sound inside refl room
moved_sound ns holds z action.Finish gives sound inside room = no_room_sound ns holds z action.Finish gives sound inside refl room
moved_sound ns holds z action.Reset gives sound inside room = no_room_sound ns holds z action.Reset gives sound inside refl room
moved_sound ns holds z action.Offline gives sound inside room = no_room_sound ns holds z action.Offline gives sound inside refl room

fault_fits : (fault : FaultState) (s : ZoneState) (w c : ℕ) → IsZone s w c → IsZone (state_of_fault fault) (kept (state_of_fault fault) w) c
fault_fits fault.ReadOnly s w c h = (h.0, le-leb w c (written_is_within s w c h))
fault_fits fault.Offline s w c h = (h.0, refl)

fault_holds : (fault : FaultState) (s : ZoneState) → HoldsNoMore (state_of_fault fault) s
fault_holds fault.ReadOnly s = idle_holds_no_more ReadOnly s refl
fault_holds fault.Offline s = idle_holds_no_more Offline s refl

pub lost_sound : (ns : ZonedNamespace) (z : ℕ) (fault : FaultState) → IsNamespace ns → z < length ns.zones → IsNamespace (with_state ns z (state_of_fault fault))
lost_sound ns z fault sound inside =
    let zone = zone_at ns z in
    let to = state_of_fault fault in
    one_sound ns z (arrived to zone) sound inside
    (arrived_fits ns.block ns.capacity to zone (zone_fits ns z sound inside)
    (fault_fits fault zone.state (length zone.blocks) ns.capacity (sound.fits z inside)))
    (fault_holds fault zone.state)

faulted_by_sound : (ns : ZonedNamespace) (z : ℕ) (fault : FaultState) (result : Result Unit FaultRefused)
    → IsNamespace ns → ((done : Unit {0}) → result ≡ Ok done → z < length ns.zones) → IsNamespace (faulted_by result ns z fault)
faulted_by_sound ns z fault (Ok done) sound inside = lost_sound ns z fault sound (inside done refl)
faulted_by_sound ns z fault (Err none) sound inside = sound

pub fault_sound : (ns : ZonedNamespace) (holds : Holds) (z : ℕ) (fault : FaultState) → IsNamespace ns → IsNamespace (faulted ns holds z fault)
fault_sound ns holds z fault sound =
    faulted_by_sound ns z fault (zone_fault_refusal ns holds z fault) sound
    (λ done e. (taken_fault ns holds z fault done e).0)
