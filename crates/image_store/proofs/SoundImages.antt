-- What holds of the namespace that an image stands for, and of a block by its number.
use Rattle.std.proofs.Common.{◌≡◌, ℕ, ◌*◌, ◌<◌, ◌≤◌, zero, suc, List, [], length, get_or, take, drop, refl, ap, sym, subst, ◌∙◌, arith, length-take, length-drop, ⊎_elim}
use Rattle.std.proofs.lemmas.Bool.{cases_lt}
use Rattle.std.proofs.lemmas.List.{get_or_past}
use Rattle.std.proofs.Math.Nat.{suc-mul, mul-le-mul_right}
use Rattle.zone_state.specs.Zone.{CountedZone, IsZone}
use Rattle.zone_resources.specs.declared.counts.Counts.{Counts}
use Rattle.common_definitions.specs.Bytes.{pieces}
use Rattle.image_store.specs.ImageInMemory.{no_counted_zone, namespace_of, IsFlat, IsImage}
use Rattle.image_store.specs.Geometry.{Shape, IsShape}
use Rattle.image_store.specs.Namespace.{ZoneWithBlocks, ZonedNamespace, no_zone, zone_at, IsNamespace}
use Rattle.image_store.proofs.BlocksAreBytes.{zones_are_bytes}
use Rattle.image_store.proofs.KeptLimits.{within_seen}
use Rattle.image_store.proofs.BlocksOfBytes.{blocks_are_counted, drop-next}
use Rattle.image_store.proofs.ZonesInMemory.{length-zones, zone-at}
use Rattle.image_store.proofs.ImageFields.{blocks_seen, room_end, within, shape_seen}

-- a block is the part of the bytes at its place,
pub blocks_are_parts : (b n i : ℕ) (xs : List ℕ) → i < n → get_or (pieces b n xs) i [] ≡ take b (drop (i * b) xs)
blocks_are_parts b zero i xs h = absurd (omega arith)
blocks_are_parts b (suc n) zero xs h = let start : zero * b ≡ 0 = omega arith in ap (λ (m : ℕ). take b (drop m xs)) (sym start)
blocks_are_parts b (suc n) (suc i) xs h =
    blocks_are_parts b n i (drop b xs) (omega arith)
    ∙ ap (take b) (drop-next b i xs)

-- and is whole, where there are bytes for all of them
pub blocks_are_whole : (b n i : ℕ) (xs : List ℕ) → i < n → n * b ≤ length xs → length (get_or (pieces b n xs) i []) ≡ b
blocks_are_whole b n i xs h long =
    let below : suc i ≤ n = omega arith in
    let product : suc i * b ≤ n * b = mul-le-mul_right b below in
    ap length (blocks_are_parts b n i xs h) ∙ omega (arith, suc-mul i b, length-take b (drop (i * b) xs), length-drop (i * b) xs)

-- what has a property that `no_zone` lacks is one of the zones,
pub is_one_of : (P : ZoneWithBlocks → Type 0) → (P no_zone → ⊥) → (zones : List ZoneWithBlocks) (z : ℕ) → P (get_or zones z no_zone) → z < length zones
is_one_of P none zones z holds =
    ⊎_elim (λ inside. inside) (λ past. absurd (none (subst P (get_or_past zones z no_zone past) holds))) (cases_lt z (length zones))

-- and so is what has blocks
pub blocks_lie_in_zones : (zones : List ZoneWithBlocks) (z i : ℕ) → i < length (get_or zones z no_zone).blocks → z < length zones
blocks_lie_in_zones zones z i h = is_one_of (λ zone. i < length zone.blocks) (λ some. omega arith) zones z h

zone_block_whole : (s : Shape) (zs : List CountedZone) (xs : List ℕ) (z i : ℕ) → IsFlat s zs xs → z < length zs → i < (get_or zs z no_counted_zone).written
    → length (get_or (zone_at (namespace_of s zs xs) z).blocks i []) ≡ s.block
zone_block_whole s zs xs z i flat inside written =
    let n = (get_or zs z no_counted_zone).written in
    let start = z * (s.capacity * s.block) in
    let end = room_end s zs xs z flat inside in
    let product : n * s.block ≤ s.capacity * s.block = mul-le-mul_right s.block (within s zs xs z flat inside) in
    ap (λ (zone : ZoneWithBlocks). length (get_or zone.blocks i [])) (zone-at s.block s.capacity zs xs z inside)
    ∙ blocks_are_whole s.block n i (drop start xs) written (omega (arith, length-drop start xs))

image_sound : (s : Shape) (zs : List CountedZone) (counts : Counts) (xs : List ℕ) → IsImage s zs counts xs → IsNamespace (namespace_of s zs xs)
image_sound s zs counts xs image =
    let flat = image.flat in
    record {
      shape = subst IsShape (shape_seen s zs xs (namespace_of s zs xs) refl flat) flat.shape;
      fits = λ z h.
          let r = get_or zs z no_counted_zone in
          let inside : z < length zs = omega (arith, length-zones s.block s.capacity zs xs) in
          subst (λ (zone : ZoneWithBlocks). IsZone zone.state (length zone.blocks) s.capacity) (sym (zone-at s.block s.capacity zs xs z inside))
          (subst (λ (n : ℕ). IsZone r.state n s.capacity) (sym (blocks_are_counted s.block r.written (drop (z * (s.capacity * s.block)) xs))) (flat.fits z inside));
      whole = λ z i h.
          let there : z < length (namespace_of s zs xs).zones = blocks_lie_in_zones (namespace_of s zs xs).zones z i h in
          let inside : z < length zs = omega (arith, length-zones s.block s.capacity zs xs) in
          let written : i < (get_or zs z no_counted_zone).written = omega (arith, blocks_seen s zs xs z inside) in
          zone_block_whole s zs xs z i flat inside written;
      within = within_seen s zs xs flat image.within;
      bytes = zones_are_bytes s.block s.capacity zs xs image.are_bytes;
    }

pub sound : (s : Shape) (zs : List CountedZone) (counts : Counts) (xs : List ℕ) (ns : ZonedNamespace) → namespace_of s zs xs ≡ ns → IsImage s zs counts xs → IsNamespace ns
sound s zs counts xs ns seen image = subst IsNamespace seen (image_sound s zs counts xs image)
