-- One counted zone replaced.
use Rattle.std.proofs.Common.{◌≡◌, ℕ, ◌+◌, ◌*◌, ◌<◌, ◌≤◌, Bool, true, false, nat_eq, if◌then◌else◌, List, [], length, get_or, set, drop, refl, ap, sym, subst, ◌∙◌, arith, Ok}
use Rattle.std.proofs.lemmas.List.Elements.{All-from_get_or, All-set}
use Rattle.std.proofs.lemmas.Bool.{eqb-false, le-leb}
use Rattle.std.proofs.lemmas.Bool.Decides.{nat_tests}
use Rattle.std.proofs.lemmas.List.{length-set}
use Rattle.zone_state.specs.declared.state.ZoneState.{ZoneState}
use Rattle.zone_state.specs.declared.state.ZoneState.TheVariants.{Empty, ImplicitlyOpened, ExplicitlyOpened, Closed, ReadOnly, Full, Offline}
use Rattle.zone_state.specs.State.{is_cleared}
use Rattle.zone_state.specs.Zone.{CountedZone, IsZone, kept, write_check, after_write, written_state}
use Rattle.zone_state.proofs.Proved.{is_allowed}
use Rattle.common_definitions.proofs.Proved.{length-spliced}
use Rattle.image_store.specs.Blocks.{block_count}
use Rattle.image_store.specs.ImageInMemory.{zone_seen, no_counted_zone, namespace_of, IsFlat}
use Rattle.common_definitions.specs.Bytes.{pieces, spliced}
use Rattle.image_store.specs.Geometry.{Shape}
use Rattle.image_store.specs.Namespace.{ZoneWithBlocks, ZonedNamespace, zone_at, with_zone, arrived, with_state, namespace_with}
use Rattle.image_store.proofs.ZonesInMemory.{zone-at, zones-set}
use Rattle.image_store.proofs.ImageFields.{blocks_seen, write_fits}

zone_set : (s : Shape) (zs : List CountedZone) (xs : List ℕ) (z : ℕ) (r : CountedZone)
    → namespace_of s (set zs z r) xs ≡ with_zone (namespace_of s zs xs) z (zone_seen s.block r (drop (z * (s.capacity * s.block)) xs))
zone_set s zs xs z r =
    ap (namespace_with s) (zones-set s.block s.capacity zs xs z r)

-- the blocks of a counted zone that keeps all or none
kept_seen : (cleared : Bool) (block written : ℕ) (bytes : List ℕ)
    → pieces block (if cleared then 0 else written) bytes ≡ (if cleared then [] else pieces block written bytes)
kept_seen true block written bytes = refl
kept_seen false block written bytes = refl

-- a counted zone in a state, with the blocks that are kept there brings the zone into that state
pub state_set : (s : Shape) (zs : List CountedZone) (xs : List ℕ) (z : ℕ) (to : ZoneState) → z < length zs
    → namespace_of s (set zs z (record { state = to; written = kept to (get_or zs z no_counted_zone).written; capacity = s.capacity })) xs ≡ with_state (namespace_of s zs xs) z to
state_set s zs xs z to inside =
    let written = (get_or zs z no_counted_zone).written in
    zone_set s zs xs z (record { state = to; written = kept to written; capacity = s.capacity })
    ∙ ap (λ (blocks : List (List ℕ)). let zone : ZoneWithBlocks = record { state = to; blocks = blocks } in with_zone (namespace_of s zs xs) z zone)
    (kept_seen (is_cleared to) s.block written (drop (z * (s.capacity * s.block)) xs))
    ∙ ap (λ (zone : ZoneWithBlocks). with_zone (namespace_of s zs xs) z (arrived to zone))
    (sym (zone-at s.block s.capacity zs xs z inside))

-- a state after a write allows the blocks that are then written
written_zone : (from : ZoneState) (written capacity : ℕ) (is_full : Bool) → 1 ≤ written → written ≤ capacity → nat_eq written capacity ≡ is_full
    → IsZone (if is_full then Full else written_state from) written capacity
written_zone from written capacity true some fits same = (omega arith, le-leb written capacity fits)
written_zone Empty written capacity false some fits other = let apart = eqb-false written capacity other in (omega arith, grind (arith, nat_tests))
written_zone ImplicitlyOpened written capacity false some fits other = let apart = eqb-false written capacity other in (omega arith, grind (arith, nat_tests))
written_zone ExplicitlyOpened written capacity false some fits other = let apart = eqb-false written capacity other in (omega arith, grind (arith, nat_tests))
written_zone Closed written capacity false some fits other = let apart = eqb-false written capacity other in (omega arith, grind (arith, nat_tests))
written_zone ReadOnly written capacity false some fits other = let apart = eqb-false written capacity other in (omega arith, grind (arith, nat_tests))
written_zone Full written capacity false some fits other = let apart = eqb-false written capacity other in (omega arith, grind (arith, nat_tests))
written_zone Offline written capacity false some fits other = let apart = eqb-false written capacity other in (omega arith, grind (arith, nat_tests))

-- a write that is allowed leaves the zone in a state that fits its blocks
pub writes_keep_zones : (z : CountedZone) (n : ℕ) → 1 ≤ n → write_check z z.written n ≡ Ok tt → IsZone (after_write z n).state (after_write z n).written z.capacity
writes_keep_zones z n some allowed =
    written_zone z.state (z.written + n) z.capacity (nat_eq (z.written + n) z.capacity) (omega arith) (is_allowed z z.written n allowed).has_room refl

-- what holds of each of a list holds of each where one that it holds of is put in a place
pub each_set : {X : Type 0} (none : X) (P : X → Type 0) (xs : List X) (z : ℕ) (x : X)
    → ((y : ℕ) → y < length xs → P (get_or xs y none)) → P x → (y : ℕ) → y < length (set xs z x) → P (get_or (set xs z x) y none)
each_set none P xs z x all here y h = All-set P xs z x here (All-from_get_or P xs none all) y none h

-- an allowed counted zone in one place, over bytes of the same number
pub flat_set : (s : Shape) (zs : List CountedZone) (xs ys : List ℕ) (z : ℕ) (r : CountedZone)
    → IsFlat s zs xs → length ys ≡ length xs → r.capacity ≡ s.capacity → IsZone r.state r.written s.capacity → IsFlat s (set zs z r) ys
flat_set s zs xs ys z r flat size same fits = record {
  shape = flat.shape;
  count = length-set zs z r ∙ flat.count;
  room = size ∙ flat.room;
  capacities = each_set no_counted_zone (λ (x : CountedZone). x.capacity ≡ s.capacity) zs z r flat.capacities same;
  fits = each_set no_counted_zone (λ (x : CountedZone). IsZone x.state x.written s.capacity) zs z r flat.fits fits;
}

-- a write that is allowed leaves an allowed counted zone
pub flat_append : (s : Shape) (zs : List CountedZone) (xs : List ℕ) (z : ℕ) (new : List ℕ) → IsFlat s zs xs → z < length zs → 1 ≤ block_count s.block new
    → length new ≡ block_count s.block new * s.block → write_check (get_or zs z no_counted_zone) (get_or zs z no_counted_zone).written (block_count s.block new) ≡ Ok tt
    → IsFlat s (set zs z (after_write (get_or zs z no_counted_zone) (block_count s.block new))) (spliced (z * (s.capacity * s.block) + (get_or zs z no_counted_zone).written * s.block) new xs)
flat_append s zs xs z new flat inside some whole allowed =
    let was = get_or zs z no_counted_zone in
    let is = after_write was (block_count s.block new) in
    let at = z * (s.capacity * s.block) + was.written * s.block in
    let same = flat.capacities z inside in
    let fits = writes_keep_zones was (block_count s.block new) some allowed in
    flat_set s zs xs (spliced at new xs) z is flat
    (length-spliced at new xs (write_fits s zs xs z new flat inside whole allowed))
    same
    (subst (λ (n : ℕ). IsZone is.state is.written n) same fits)

-- a state that allows the blocks which the namespace's zone keeps there allows those that the image counts
pub fits_seen : (s : Shape) (zs : List CountedZone) (xs : List ℕ) (z : ℕ) (ns : ZonedNamespace) (to : ZoneState) → namespace_of s zs xs ≡ ns → z < length zs
    → IsZone to (kept to (length (zone_at ns z).blocks)) ns.capacity → IsZone to (kept to (get_or zs z no_counted_zone).written) s.capacity
fits_seen s zs xs z ns to seen inside h =
    subst (λ (n : ℕ). IsZone to (kept to n) s.capacity) (blocks_seen s zs xs z inside)
    (subst (λ (m : ZonedNamespace). IsZone to (kept to (length (zone_at m z).blocks)) m.capacity) (sym seen) h)
