-- Zones that may give way.
use Rattle.std.proofs.Common.{◌≡◌, ℕ, ◌<◌, length, Some, ap, sym, subst, ◌∙◌, arith}
use Rattle.std.specs.Prelude.{◌≢◌}
use Rattle.std.proofs.lemmas.List.{length-map, get_or-map}
use Rattle.std.proofs.lemmas.Option.{slice_get_within, get_or_from_slice_get}
use Rattle.zone_state.specs.Zone.{CountedZone}
use Rattle.zone_state.specs.declared.state.ZoneState.TheVariants.{ImplicitlyOpened}
use Rattle.zone_resources.specs.Admission.{wanted_of, IsClosable}
use Rattle.zone_resources.specs.declared.admission.Wanted.{Wanted}
use Rattle.zone_resources.specs.declared.holds.Holds.{Holds}
use Rattle.zone_resources.proofs.Proved.{wants}
use Rattle.image_store.specs.Namespace.{ZonedNamespace, no_zone, zone_at, counted, counted_zones}

-- a zone that may be closed is a zone, and implicitly opened
pub closable_zone : (ns : ZonedNamespace) (holds : Holds) (z : ℕ) → IsClosable holds (counted_zones ns) z → z < length ns.zones
closable_zone ns holds z h =
    let within = slice_get_within (counted_zones ns) z h.zone h.there in
    omega (arith, length-map ns.zones (counted ns.capacity))

pub closable_state : (ns : ZonedNamespace) (holds : Holds) (z : ℕ) → IsClosable holds (counted_zones ns) z → (zone_at ns z).state ≡ ImplicitlyOpened
closable_state ns holds z h =
    let inside = closable_zone ns holds z h in
    let read = get_or_from_slice_get (counted_zones ns) z h.zone (counted ns.capacity no_zone) h.there in
    let mapped = get_or-map (counted ns.capacity) ns.zones z no_zone (counted ns.capacity no_zone) inside in
    ap (λ (r : CountedZone). r.state) (sym mapped ∙ read) ∙ h.implicitly_opened

-- a zone that wants room isn't the one that gives way
pub other_zone : (ns : ZonedNamespace) (holds : Holds) (zone : ℕ) (wanted : Wanted) (z : ℕ) → wanted_of (zone_at ns zone).state ≡ Some wanted → IsClosable holds (counted_zones ns) z → z ≢ zone
other_zone ns holds zone wanted z wanted_is closable = λ (same : z ≡ zone).
    (wants (zone_at ns zone).state wanted wanted_is).not_open (subst (λ (k : ℕ). (zone_at ns k).state ≡ ImplicitlyOpened) same (closable_state ns holds z closable))
