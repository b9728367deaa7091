-- What holds of an action that isn't refused.
use Rattle.std.proofs.Common.{◌≡◌, ℕ, ◌<◌, Bool, true, false, [], ◌∷◌, length, Option, Some, None, Result, Ok, Err, refl, subst}
use Rattle.std.specs.Prelude.{nat_lt, not, IfOk}
use Rattle.std.specs.Result.{result_err, result_unwrap_or}
use Rattle.std.proofs.lemmas.Bool.{ltb-true}
use Rattle.zone_state.specs.declared.action.Action.{Action}
use Rattle.zone_state.specs.declared.action.Action.TheVariants as action
use Rattle.zone_state.specs.declared.state.ZoneState.{ZoneState}
use Rattle.zone_state.specs.declared.status.Status.{Status}
use Rattle.zone_state.specs.declared.status.TheConstants.Status.{ZONE_HELD}
use Rattle.zone_resources.specs.declared.holds.Holds.{Holds}
use Rattle.common_definitions.specs.Checks.{demand, unless_failed, first_failed}
use Rattle.common_definitions.proofs.Proved.{demanded, passed}
use Rattle.image_store.specs.Namespace.{ZonedNamespace, zone_at, IsNamespace}
use Rattle.zns_commands.specs.Address.{zone_number, block_total}
use Rattle.zns_commands.specs.Resources.{room_for}
use Rattle.zns_commands.specs.steps.Accepted.{CanGiveWay}
use Rattle.zns_commands.specs.Send.{room_of, zone_checks}
use Rattle.zns_commands.specs.steps.Accepted.{CanMove}
use Rattle.zns_commands.specs.declared.send.ZonePlan.{ZonePlan}
use Rattle.zns_commands.specs.steps.Plans.{closing_of, zone_plan}
use Rattle.zns_commands.proofs.FittingZones.{action_fits}
use Rattle.zns_commands.proofs.GivenWay.{has_room, no_one_gives_way}
use Rattle.zns_commands.proofs.MovedZones.{moved_sound}
use Rattle.zns_commands.proofs.PassedChecks.{unrefused, zone_inside}

-- the checks of an action on one zone, all passed, and what they give
pub zone_checked : (address lowest : Option Status) (refused : Bool) (moves : Result ZoneState Status) (room : Result (Option ℕ) Status)
    (from : ZoneState) (z zone : ℕ) (to : ZoneState) (closing : Option ℕ)
    → Ok zone ≡ unless_failed (first_failed (address ∷ lowest ∷ [])) z → refused ≡ false → Ok to ≡ moves → Ok closing ≡ room
    → Ok (let plan : ZonePlan = record { zone = zone; to = to; closing = closing } in plan)
    ≡ unless_failed (first_failed (address ∷ lowest ∷ demand (not refused) ZONE_HELD ∷ result_err moves ∷ result_err room ∷ []))
    (let plan : ZonePlan = record { zone = z; to = result_unwrap_or moves from; closing = closing_of room } in plan)
zone_checked None None false (Ok s) (Ok gives) from z zone to closing is free moves room = cc
zone_checked (Some status) lowest refused leads gives from z zone to closing is free moves room = cc
zone_checked None (Some status) refused leads gives from z zone to closing is free moves room = cc
zone_checked None None true leads gives from z zone to closing is free moves room = cc
zone_checked None None false (Err status) gives from z zone to closing is free moves room = cc
zone_checked None None false (Ok s) (Err status) from z zone to closing is free moves room = cc

-- what holds of a value where no check fails holds of what is given
pub if_allowed : {X : Type 0} (P : X → Type 0) (refusal : Option Status) (x : X) (r : Result X Status)
    → r ≡ unless_failed refusal x → (refusal ≡ None → P x) → IfOk r P
if_allowed P None x (Ok y) e holds =
    let same : x ≡ y = cc in subst P same (holds refl)
if_allowed P (Some status) x (Ok y) e holds = absurd cc
if_allowed P refusal x (Err status) e holds = tt

room_given : (ns : ZonedNamespace) (holds : Holds) (z : ℕ) (a : Action) → IsNamespace ns → z < length ns.zones
    → room_of ns holds a (zone_at ns z).state ≡ Ok (closing_of (room_of ns holds a (zone_at ns z).state))
    → CanGiveWay ns z (closing_of (room_of ns holds a (zone_at ns z).state))
room_given ns holds z action.Open sound inside room =
    (has_room ns holds z (closing_of (room_for ns holds (zone_at ns z).state)) sound inside room).give
room_given ns holds z action.Close sound inside room = no_one_gives_way ns z sound
room_given ns holds z action.Finish sound inside room = no_one_gives_way ns z sound
room_given ns holds z action.Reset sound inside room = no_one_gives_way ns z sound
room_given ns holds z action.Offline sound inside room = no_one_gives_way ns z sound

pub can_move : (ns : ZonedNamespace) (holds : Holds) (lba : ℕ) (a : Action) → IsNamespace ns
    → first_failed (zone_checks ns holds lba a) ≡ None → CanMove ns (zone_plan ns holds lba a)
can_move ns holds lba a sound none =
    let checks = zone_checks ns holds lba a in
    let z = zone_number ns lba in
    let state = (zone_at ns z).state in
    let start = ltb-true lba (block_total ns) (demanded (nat_lt lba (block_total ns)) _ (passed checks 0 none)) in
    let inside = zone_inside ns lba sound start in
    let room = unrefused (room_of ns holds a state) None (passed checks 4 none) in
    record {
      inside = inside;
      fits = action_fits a state (length (zone_at ns z).blocks) ns.capacity (sound.fits z inside);
      gives = room_given ns holds z a sound inside room;
      limits = (moved_sound ns holds z a (closing_of (room_of ns holds a state)) sound inside room).within;
    }
