-- An image's fields and the namespace that they stand for.
use Rattle.std.proofs.Common.{◌≡◌, ℕ, ◌+◌, ◌*◌, ◌<◌, ◌≤◌, zero, suc, List, [], ◌∷◌, ◌++◌, length, get_or, set, map, replicate, take, drop, refl, ap, sym, subst, ◌∙◌, arith, Ok}
use Rattle.std.specs.List.{concat}
use Rattle.std.proofs.lemmas.List.{drop-drop}
use Rattle.std.proofs.lemmas.Bool.Decides.{nat_tests}
use Rattle.std.proofs.Math.Nat.{suc-mul, add-mul, mul-le-mul_right}
use Rattle.zone_state.specs.declared.state.ZoneState.{ZoneState}
use Rattle.zone_state.specs.declared.state.ZoneState.TheVariants.{Empty, ImplicitlyOpened, ExplicitlyOpened, Closed, ReadOnly, Full, Offline}
use Rattle.zone_state.specs.Zone.{CountedZone, IsZone, write_check, after_write}
use Rattle.zone_state.proofs.Proved.{is_allowed}
use Rattle.image_store.specs.Blocks.{as_blocks, block_count}
use Rattle.image_store.specs.ImageInMemory.{zones_of, zone_seen, no_counted_zone, namespace_of, IsFlat}
use Rattle.image_store.specs.steps.EmptyZone.{empty_counted_zone}
use Rattle.common_definitions.specs.Bytes.{pieces, spliced}
use Rattle.image_store.specs.Geometry.{Shape}
use Rattle.image_store.specs.Namespace.{ZoneWithBlocks, ZonedNamespace, zone_at, counted, grown, appended, namespace_with, all_empty, shape}
use Rattle.image_store.proofs.BlocksOfBytes.{blocks_are_counted, bytes-middle}
use Rattle.image_store.proofs.Shapes.{resized}
use Rattle.image_store.proofs.ZonesInMemory.{HasRoom, length-zones, zone-at, zones-append, write_end}

-- a zone's written blocks fit its capacity
pub written_is_within : (state : ZoneState) (written capacity : ℕ) → IsZone state written capacity → written ≤ capacity
written_is_within Empty written capacity h = grind (arith, nat_tests)
written_is_within ImplicitlyOpened written capacity h = grind (arith, nat_tests)
written_is_within ExplicitlyOpened written capacity h = grind (arith, nat_tests)
written_is_within Closed written capacity h = grind (arith, nat_tests)
written_is_within ReadOnly written capacity h = grind (arith, nat_tests)
written_is_within Full written capacity h = grind (arith, nat_tests)
written_is_within Offline written capacity h = grind (arith, nat_tests)

-- each zone of an image has no more written blocks than its capacity
pub within : (s : Shape) (zs : List CountedZone) (xs : List ℕ) (z : ℕ) → IsFlat s zs xs → z < length zs → (get_or zs z no_counted_zone).written ≤ s.capacity
within s zs xs z flat inside = written_is_within (get_or zs z no_counted_zone).state (get_or zs z no_counted_zone).written s.capacity (flat.fits z inside)

-- a zone as it is seen is counted as it was
pub counted_seen : (b c : ℕ) (r : CountedZone) (xs : List ℕ) → r.capacity ≡ c → counted c (zone_seen b r xs) ≡ r
counted_seen b c r xs same =
    ap (λ (n : ℕ). let z : CountedZone = record { state = r.state; written = n; capacity = c } in z) (blocks_are_counted b r.written xs)
    ∙ ap (λ (n : ℕ). let z : CountedZone = record { state = r.state; written = r.written; capacity = n } in z) (sym same)

pub counted_at : (s : Shape) (zs : List CountedZone) (xs : List ℕ) (z : ℕ) → IsFlat s zs xs → z < length zs → counted s.capacity (zone_at (namespace_of s zs xs) z) ≡ get_or zs z no_counted_zone
counted_at s zs xs z flat inside =
    ap (counted s.capacity) (zone-at s.block s.capacity zs xs z inside)
    ∙ counted_seen s.block s.capacity (get_or zs z no_counted_zone) (drop (z * (s.capacity * s.block)) xs) (flat.capacities z inside)

-- a zone of the namespace has as many blocks as the image counts
pub blocks_seen : (s : Shape) (zs : List CountedZone) (xs : List ℕ) (z : ℕ) → z < length zs → length (zone_at (namespace_of s zs xs) z).blocks ≡ (get_or zs z no_counted_zone).written
blocks_seen s zs xs z inside =
    ap (λ (zone : ZoneWithBlocks). length zone.blocks) (zone-at s.block s.capacity zs xs z inside)
    ∙ blocks_are_counted s.block (get_or zs z no_counted_zone).written (drop (z * (s.capacity * s.block)) xs)

-- the blocks to be written have room in the zone's room
pub has_room : (s : Shape) (zs : List CountedZone) (xs : List ℕ) (z : ℕ) (new : List ℕ) → IsFlat s zs xs → z < length zs
    → length new ≡ block_count s.block new * s.block → write_check (get_or zs z no_counted_zone) (get_or zs z no_counted_zone).written (block_count s.block new) ≡ Ok tt
    → HasRoom s.block s.capacity (get_or zs z no_counted_zone).written (block_count s.block new) new
has_room s zs xs z new flat inside whole allowed = record {
  size = whole;
  room = let fits = (is_allowed (get_or zs z no_counted_zone) (get_or zs z no_counted_zone).written (block_count s.block new) allowed).has_room in
      let same = flat.capacities z inside in omega arith;
}

-- the room of a zone ends within the room of all
pub room_end : (s : Shape) (zs : List CountedZone) (xs : List ℕ) (z : ℕ) → IsFlat s zs xs → z < length zs → z * (s.capacity * s.block) + s.capacity * s.block ≤ length xs
room_end s zs xs z flat inside =
    let count = flat.count in
    let room = flat.room in
    let below : suc z ≤ s.zones = omega arith in
    let product : suc z * (s.capacity * s.block) ≤ s.zones * (s.capacity * s.block) = mul-le-mul_right (s.capacity * s.block) below in
    omega (arith, suc-mul z (s.capacity * s.block))

pub write_fits : (s : Shape) (zs : List CountedZone) (xs : List ℕ) (z : ℕ) (new : List ℕ) → IsFlat s zs xs → z < length zs
    → length new ≡ block_count s.block new * s.block → write_check (get_or zs z no_counted_zone) (get_or zs z no_counted_zone).written (block_count s.block new) ≡ Ok tt
    → z * (s.capacity * s.block) + (get_or zs z no_counted_zone).written * s.block + length new ≤ length xs
write_fits s zs xs z new flat inside whole allowed =
    let end = room_end s zs xs z flat inside in
    let reach = write_end s.block s.capacity (get_or zs z no_counted_zone).written (block_count s.block new) new (has_room s zs xs z new flat inside whole allowed) in
    omega arith

grown_seen : (b c : ℕ) (r : CountedZone) (xs new : List ℕ) → r.capacity ≡ c → grown c (zone_seen b r xs) (as_blocks b new) ≡ record { state = (after_write r (block_count b new)).state; blocks = pieces b r.written xs ++ as_blocks b new }
grown_seen b c r xs new same =
    ap (λ (z : CountedZone). let seen : ZoneWithBlocks = record { state = (after_write z (length (as_blocks b new))).state; blocks = pieces b r.written xs ++ as_blocks b new } in seen) (counted_seen b c r xs same)
    ∙ ap (λ (n : ℕ). let seen : ZoneWithBlocks = record { state = (after_write r n).state; blocks = pieces b r.written xs ++ as_blocks b new } in seen) (blocks_are_counted b (block_count b new) new)

-- writing into the room and counting the blocks appends them to the zone
pub append_seen : (s : Shape) (zs : List CountedZone) (xs : List ℕ) (z : ℕ) (new : List ℕ) → IsFlat s zs xs → z < length zs
    → length new ≡ block_count s.block new * s.block → write_check (get_or zs z no_counted_zone) (get_or zs z no_counted_zone).written (block_count s.block new) ≡ Ok tt
    → namespace_of s (set zs z (after_write (get_or zs z no_counted_zone) (block_count s.block new))) (spliced (z * (s.capacity * s.block) + (get_or zs z no_counted_zone).written * s.block) new xs)
    ≡ appended (namespace_of s zs xs) z new
append_seen s zs xs z new flat inside whole allowed =
    let r = get_or zs z no_counted_zone in
    let n = block_count s.block new in
    let long : length zs * (s.capacity * s.block) ≤ length xs = rw (flat.count, flat.room) (omega arith) in
    let zones = zones-append s.block s.capacity zs xs z n (after_write r n) new inside long (λ y in_list. within s zs xs y flat in_list) (has_room s zs xs z new flat inside whole allowed) refl in
    let seen = ap (λ (zone : ZoneWithBlocks). grown s.capacity zone (as_blocks s.block new)) (zone-at s.block s.capacity zs xs z inside)
    ∙ grown_seen s.block s.capacity r (drop (z * (s.capacity * s.block)) xs) new (flat.capacities z inside) in
    ap (namespace_with s)
    (zones ∙ ap (set (zones_of s.block s.capacity zs xs) z) (sym seen))

-- a zone of the namespace is one of the image's
pub inside_seen : (s : Shape) (zs : List CountedZone) (xs : List ℕ) (z : ℕ) (ns : ZonedNamespace) → namespace_of s zs xs ≡ ns → z < length ns.zones → z < length zs
inside_seen s zs xs z ns seen h =
    let inside : z < length (namespace_of s zs xs).zones = subst (λ (m : ZonedNamespace). z < length m.zones) (sym seen) h in
    omega (arith, length-zones s.block s.capacity zs xs)

-- a write that the namespace allows is one that the image's zone allows
pub allowed_seen : (s : Shape) (zs : List CountedZone) (xs : List ℕ) (z : ℕ) (new : List ℕ) (ns : ZonedNamespace) → namespace_of s zs xs ≡ ns → IsFlat s zs xs → z < length zs
    → write_check (counted ns.capacity (zone_at ns z)) (counted ns.capacity (zone_at ns z)).written (block_count ns.block new) ≡ Ok tt
    → write_check (get_or zs z no_counted_zone) (get_or zs z no_counted_zone).written (block_count s.block new) ≡ Ok tt
allowed_seen s zs xs z new ns seen flat inside h =
    let same = counted_at s zs xs z flat inside in
    subst (λ (r : CountedZone). write_check r r.written (block_count s.block new) ≡ Ok tt) same
    (subst (λ (m : ZonedNamespace). write_check (counted m.capacity (zone_at m z)) (counted m.capacity (zone_at m z)).written (block_count m.block new) ≡ Ok tt) (sym seen) h)

empty_zones : (b c n : ℕ) (r : CountedZone) (xs : List ℕ) → r.written ≡ 0 → zones_of b c (replicate n r) xs ≡ replicate n (record { state = r.state; blocks = [] })
empty_zones b c zero r xs none = refl
empty_zones b c (suc n) r xs none =
    ap (λ (k : ℕ). let seen : ZoneWithBlocks = record { state = r.state; blocks = pieces b k xs } in seen ∷ zones_of b c (replicate n r) (drop (c * b) xs)) none
    ∙ ap (λ (rest : List ZoneWithBlocks). let seen : ZoneWithBlocks = record { state = r.state; blocks = [] } in seen ∷ rest) (empty_zones b c n r (drop (c * b) xs) none)

-- zones of which nothing is written, over any bytes
pub empty_seen : (s : Shape) (xs : List ℕ) → namespace_of s (replicate s.zones (empty_counted_zone s.capacity)) xs ≡ all_empty s
empty_seen s xs =
    let r = empty_counted_zone s.capacity in
    ap (namespace_with s)
    (empty_zones s.block s.capacity s.zones r xs refl)

-- the zones without their blocks are the counted zones
pub zones_counted : (b c : ℕ) (zs : List CountedZone) (xs : List ℕ) → ((z : ℕ) → z < length zs → (get_or zs z no_counted_zone).capacity ≡ c) → map (counted c) (zones_of b c zs xs) ≡ zs
zones_counted b c [] xs same = refl
zones_counted b c (r ∷ zs) xs same =
    ap (λ (y : CountedZone). y ∷ map (counted c) (zones_of b c zs (drop (c * b) xs))) (counted_seen b c r xs (same 0 (omega arith)))
    ∙ ap (λ (rest : List CountedZone). r ∷ rest) (zones_counted b c zs (drop (c * b) xs) (λ z h. same (suc z) (omega arith)))

-- a part of a zone's written blocks lies within its room
pub part_fits : (s : Shape) (zs : List CountedZone) (xs : List ℕ) (z first count : ℕ) → IsFlat s zs xs → z < length zs → first + count ≤ (get_or zs z no_counted_zone).written
    → z * (s.capacity * s.block) + first * s.block + count * s.block ≤ length xs
part_fits s zs xs z first count flat inside written =
    let end = room_end s zs xs z flat inside in
    let most = within s zs xs z flat inside in
    let fits : first + count ≤ s.capacity = omega arith in
    let product : (first + count) * s.block ≤ s.capacity * s.block = mul-le-mul_right s.block fits in
    omega (arith, add-mul first count s.block)

pub part_seen : (s : Shape) (zs : List CountedZone) (xs : List ℕ) (z first count : ℕ) → z < length zs → first + count ≤ (get_or zs z no_counted_zone).written
    → take (count * s.block) (drop (z * (s.capacity * s.block) + first * s.block) xs) ≡ concat (take count (drop first (zone_at (namespace_of s zs xs) z).blocks))
part_seen s zs xs z first count inside written =
    ap (take (count * s.block)) (sym (drop-drop (first * s.block) (z * (s.capacity * s.block)) xs))
    ∙ (sym (bytes-middle s.block first count (get_or zs z no_counted_zone).written (drop (z * (s.capacity * s.block)) xs) written)
    ∙ ap (λ (zone : ZoneWithBlocks). concat (take count (drop first zone.blocks))) (sym (zone-at s.block s.capacity zs xs z inside)))

-- what is no more than the namespace's zone has blocks is no more than the image counts
pub written_seen : (s : Shape) (zs : List CountedZone) (xs : List ℕ) (z most : ℕ) (ns : ZonedNamespace) → namespace_of s zs xs ≡ ns → z < length zs → most ≤ length (zone_at ns z).blocks → most ≤ (get_or zs z no_counted_zone).written
written_seen s zs xs z most ns seen inside h =
    let same = ap (λ (m : ZonedNamespace). length (zone_at m z).blocks) seen in
    omega (arith, blocks_seen s zs xs z inside)

pub shape_seen : (s : Shape) (zs : List CountedZone) (xs : List ℕ) (ns : ZonedNamespace) → namespace_of s zs xs ≡ ns → IsFlat s zs xs → s ≡ shape ns
shape_seen s zs xs ns seen flat =
    let zones : s.zones ≡ length (zones_of s.block s.capacity zs xs) = sym flat.count ∙ sym (length-zones s.block s.capacity zs xs) in
    ap (resized s) zones ∙ ap shape seen
