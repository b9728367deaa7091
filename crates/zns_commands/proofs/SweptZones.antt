-- That Select All keeps a namespace sound.
use Rattle.std.proofs.Common.{◌≡◌, ℕ, zero, suc, ◌+◌, ◌<◌, ◌≤◌, Bool, true, false, cond, List, [], ◌∷◌, length, map, refl, sym, subst, arith}
use Rattle.std.proofs.lemmas.Bool.{leb-true}
use Rattle.std.proofs.lemmas.List.{length-map, get_or-map}
use Rattle.std.proofs.lemmas.List.Sums.{sum_by-cons}
use Rattle.zone_state.specs.State.{is_open, is_active}
use Rattle.zone_state.specs.Zone.{CountedZone, IsZone, kept}
use Rattle.zone_state.specs.declared.action.Action.{Action}
use Rattle.zone_state.specs.declared.action.Action.TheVariants as action
use Rattle.zone_state.specs.declared.state.ZoneState.{ZoneState}
use Rattle.zone_state.specs.declared.state.ZoneState.TheVariants.{Empty, ImplicitlyOpened, ExplicitlyOpened, Closed, ReadOnly, Full, Offline}
use Rattle.zone_resources.specs.Admission.{IsWithin}
use Rattle.zone_resources.specs.Counts.{count_in, open_count, one_if}
use Rattle.image_store.specs.Namespace.{ZoneWithBlocks, ZonedNamespace, no_zone, zone_at, counted, counted_zones, IsNamespace, IsWithinLimits, arrived}
use Rattle.zns_commands.specs.Send.{all_effect, all_fit, led_to, takes, taken_among, swept}
use Rattle.zns_commands.proofs.FittingZones.{FitsIn, action_fits, zone_fits, namespace_of_zones}
use Rattle.zns_commands.proofs.Sweeps.{mapped, mapped-all, swept_below}
use Rattle.zns_commands.proofs.MovedZones.{arrived_fits}

-- the state of a zone that Select All has gone over
abbrev after_sweep : Action → ZoneState → ZoneState
after_sweep a s = cond (takes a s) (led_to a s) s

swept_by : (taken : Bool) (to : ZoneState) (zone : ZoneWithBlocks) → (cond taken (arrived to zone) zone).state ≡ cond taken to zone.state
swept_by true to zone = refl
swept_by false to zone = refl

swept_state : (a : Action) (zone : ZoneWithBlocks) → (swept a zone).state ≡ after_sweep a zone.state
swept_state a zone = swept_by (takes a zone.state) (led_to a zone.state) zone

swept_fits_by : (b c : ℕ) (taken : Bool) (to : ZoneState) (zone : ZoneWithBlocks)
    → FitsIn b c zone → IsZone to (kept to (length zone.blocks)) c → FitsIn b c (cond taken (arrived to zone) zone)
swept_fits_by b c true to zone fits is = arrived_fits b c to zone fits is
swept_fits_by b c false to zone fits is = fits

swept_fits : (b c : ℕ) (a : Action) (zone : ZoneWithBlocks) → FitsIn b c zone → FitsIn b c (swept a zone)
swept_fits b c a zone fits =
    swept_fits_by b c (takes a zone.state) (led_to a zone.state) zone fits
    (action_fits a zone.state (length zone.blocks) c fits.state)

-- does Select All open a zone of this state?
abbrev opens : Action → ZoneState → Bool
opens action.Open s = takes action.Open s
opens _ s = false

-- a swept zone holds no more, except that it may be opened
record SweepHolds (a : Action) (s : ZoneState) : Type 0 where
  opened : one_if (is_open (after_sweep a s)) ≤ one_if (is_open s) + one_if (opens a s)
  active : one_if (is_active (after_sweep a s)) ≤ one_if (is_active s) + one_if false

sweep_holds : (a : Action) (s : ZoneState) → SweepHolds a s
sweep_holds action.Close Empty = record { opened = omega arith; active = omega arith }
sweep_holds action.Finish Empty = record { opened = omega arith; active = omega arith }
sweep_holds action.Open Empty = record { opened = omega arith; active = omega arith }
sweep_holds action.Reset Empty = record { opened = omega arith; active = omega arith }
sweep_holds action.Offline Empty = record { opened = omega arith; active = omega arith }
sweep_holds a s = record { opened = omega arith; active = omega arith }

-- where each of the first zones adds to a count no more than it did, but for some, the count grows by no more than these
count_mapped : (test more : ZoneState → Bool) (c : ℕ) (f : ZoneWithBlocks → ZoneWithBlocks) (n : ℕ) (zones : List ZoneWithBlocks)
    → ((zone : ZoneWithBlocks) → one_if (test (f zone).state) ≤ one_if (test zone.state) + one_if (more zone.state))
    → count_in test (map (counted c) (mapped f n zones)) ≤ count_in test (map (counted c) zones) + count_in more (map (counted c) zones)
count_mapped test more c f zero [] each = omega arith
count_mapped test more c f (suc n) [] each = omega arith
count_mapped test more c f zero (zone ∷ zones) each = omega arith
count_mapped test more c f (suc n) (zone ∷ zones) each =
    let rest = count_mapped test more c f n zones each in
    let first = each zone in
    let after_it = sum_by-cons (λ (z : CountedZone). one_if (test z.state)) (counted c (f zone)) (map (counted c) (mapped f n zones)) in
    let before_it = sum_by-cons (λ (z : CountedZone). one_if (test z.state)) (counted c zone) (map (counted c) zones) in
    let more_it = sum_by-cons (λ (z : CountedZone). one_if (more z.state)) (counted c zone) (map (counted c) zones) in
    omega arith

count_none : (zones : List CountedZone) → count_in (λ s. false) zones ≡ 0
count_none [] = refl
count_none (zone ∷ zones) = count_none zones

-- those that are opened have room
opened_fit : (ns : ZonedNamespace) (a : Action) → IsWithin (counted_zones ns) ns.limits → all_fit ns a ≡ true
    → open_count (counted_zones ns) + count_in (opens a) (counted_zones ns) ≤ ns.limits.open_limit
opened_fit ns action.Open within fit = leb-true (open_count (counted_zones ns) + taken_among (counted_zones ns) action.Open) ns.limits.open_limit fit
opened_fit ns action.Close within fit = omega (arith, count_none (counted_zones ns), within.opened)
opened_fit ns action.Finish within fit = omega (arith, count_none (counted_zones ns), within.opened)
opened_fit ns action.Reset within fit = omega (arith, count_none (counted_zones ns), within.opened)
opened_fit ns action.Offline within fit = omega (arith, count_none (counted_zones ns), within.opened)

-- ---- what Open opens

opened_one : (s : ZoneState) → one_if (is_open (after_sweep action.Open s)) ≡ one_if (is_open s) + one_if (takes action.Open s)
opened_one Empty = refl
opened_one ImplicitlyOpened = refl
opened_one ExplicitlyOpened = refl
opened_one Closed = refl
opened_one ReadOnly = refl
opened_one Full = refl
opened_one Offline = refl

-- once all zones are swept, those are open that were and those that it takes
pub opened_count : (c : ℕ) (zones : List ZoneWithBlocks)
    → open_count (map (counted c) (map (swept action.Open) zones))
    ≡ open_count (map (counted c) zones) + taken_among (map (counted c) zones) action.Open
opened_count c [] = refl
opened_count c (zone ∷ zones) =
    let rest = opened_count c zones in
    let one = subst (λ (s : ZoneState). one_if (is_open s) ≡ one_if (is_open zone.state) + one_if (takes action.Open zone.state))
    (sym (swept_state action.Open zone)) (opened_one zone.state) in
    let after_it = sum_by-cons (λ (z : CountedZone). one_if (is_open z.state)) (counted c (swept action.Open zone)) (map (counted c) (map (swept action.Open) zones)) in
    let before_it = sum_by-cons (λ (z : CountedZone). one_if (is_open z.state)) (counted c zone) (map (counted c) zones) in
    let taken_it = sum_by-cons (λ (z : CountedZone). one_if (takes action.Open z.state)) (counted c zone) (map (counted c) zones) in
    omega (arith, rest, one, after_it, before_it, taken_it)

-- ---- the limits

-- the limits allow the first zones swept, and all of them
pub swept_below_within : (ns : ZonedNamespace) (a : Action) (n : ℕ) → IsWithinLimits ns → all_fit ns a ≡ true → IsWithinLimits (swept_below ns a n)
swept_below_within ns a n within fit =
    let opened = count_mapped is_open (opens a) ns.capacity (swept a) n ns.zones
    (λ zone. subst (λ (s : ZoneState). one_if (is_open s) ≤ one_if (is_open zone.state) + one_if (opens a zone.state)) (sym (swept_state a zone)) (sweep_holds a zone.state).opened) in
    let active = count_mapped is_active (λ s. false) ns.capacity (swept a) n ns.zones
    (λ zone. subst (λ (s : ZoneState). one_if (is_active s) ≤ one_if (is_active zone.state) + one_if false) (sym (swept_state a zone)) (sweep_holds a zone.state).active) in
    record {
      opened = omega (arith, opened, opened_fit ns a within fit);
      active = omega (arith, active, count_none (counted_zones ns), within.active);
    }

swept_within : (ns : ZonedNamespace) (a : Action) → IsWithinLimits ns → all_fit ns a ≡ true → IsWithinLimits (all_effect ns a)
swept_within ns a within fit =
    subst (λ (zones : List ZoneWithBlocks). IsWithin (map (counted ns.capacity) zones) ns.limits)
    (mapped-all (swept a) (length ns.zones) ns.zones refl) (swept_below_within ns a (length ns.zones) within fit)

pub all_sound : (ns : ZonedNamespace) (a : Action) → IsNamespace ns → all_fit ns a ≡ true → IsNamespace (all_effect ns a)
all_sound ns a sound fit =
    namespace_of_zones ns (map (swept a) ns.zones) sound.shape (length-map ns.zones (swept a))
    (λ z inside.
    let in_list : z < length ns.zones = omega (arith, length-map ns.zones (swept a)) in
    subst (FitsIn ns.block ns.capacity) (sym (get_or-map (swept a) ns.zones z no_zone no_zone in_list))
    (swept_fits ns.block ns.capacity a (zone_at ns z) (zone_fits ns z sound in_list)))
    (swept_within ns a sound.within fit)
