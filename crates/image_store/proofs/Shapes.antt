-- The tests of a namespace's numbers, and what holds of each shape that passes them.
use Rattle.std.proofs.Common.{◌≡◌, ℕ, ◌*◌, ◌≤◌, true, Ok, refl, arith}
use Rattle.std.proofs.lemmas.Bool.{le-leb, leb-true, and_parts}
use Rattle.std.proofs.lemmas.Bool.Decides.{nat_tests}
use Rattle.std.proofs.Math.Nat.{mul_assoc, mul-le-mul_right}
use Rattle.std.specs.Int.{is_in_range}
use Rattle.std.specs.Prelude.{nat_le}
use Rattle.program_interface.specs.BlockSize.{is_block_size, IsBlockSize}
use Rattle.program_interface.specs.declared.block_size.TheConstants.{LARGEST_BLOCK}
use Rattle.image_store.specs.declared.geometry.GeometryRefusal.TheVariants.{BlockSize, ZoneCount, ZoneSize, ZoneCapacity, ResourceLimits, TooLarge}
use Rattle.image_store.specs.declared.geometry.TheConstants.{MOST_BYTES, MOST_ZONES, MOST_ZONE_BLOCKS}
use Rattle.common_definitions.specs.Checks.{first_failed}
use Rattle.common_definitions.proofs.Proved.{demanded, none_failed, passed}
use Rattle.image_store.specs.Geometry.{Shape, IsShape, are_limits, shape_checks, tested}

-- the shape with another number of zones
abbrev pub resized : Shape → ℕ → Shape
resized s n = record { block = s.block; zones = n; size = s.size; capacity = s.capacity; limits = s.limits }

block_range : (bytes : ℕ) → IsBlockSize bytes → (512 ≤ bytes) × (bytes ≤ LARGEST_BLOCK)
block_range bytes is = grind (arith, nat_tests)

-- what a block has at least,
pub block_some : {s : Shape} → IsShape s → 512 ≤ s.block
block_some {s} known = (block_range s.block known.block_size).0

-- and at most;
pub block_most : {s : Shape} → IsShape s → s.block ≤ LARGEST_BLOCK
block_most {s} known = (block_range s.block known.block_size).1

-- what the blocks of a zone take at most
pub zone_room_is_bounded : {s : Shape} → IsShape s → s.capacity * s.block ≤ MOST_BYTES
zone_room_is_bounded {s} known =
    let room = known.room in
    let one : 1 * (s.capacity * s.block) ≤ s.zones * (s.capacity * s.block) = mul-le-mul_right (s.capacity * s.block) known.zones_some in
    omega arith

in_range_true : (n most : ℕ) → 1 ≤ n → n ≤ most → is_in_range 1 most n ≡ true
in_range_true n most low high = rw (le-leb 1 n low, le-leb n most high) refl

-- a shape passes the tests
pub shape_passes : (s : Shape) → IsShape s → tested s ≡ Ok s
shape_passes s known =
    let zones = in_range_true s.zones MOST_ZONES known.zones_some known.zones_most in
    let size = in_range_true s.size MOST_ZONE_BLOCKS known.size_some known.size_most in
    let capacity = in_range_true s.capacity s.size known.capacity_some known.capacity_most in
    let limits : are_limits s.limits s.zones ≡ true = rw (in_range_true s.limits.open_limit s.limits.active_limit known.open_some known.open_most, le-leb s.limits.active_limit s.zones known.active_most) refl in
    let room : s.zones * s.capacity * s.block ≤ MOST_BYTES = let e = mul_assoc s.zones s.capacity s.block in let most = known.room in omega arith in
    rw (known.block_size, zones, size, capacity, limits, le-leb (s.zones * s.capacity * s.block) MOST_BYTES room) refl

in_range : (n most : ℕ) → is_in_range 1 most n ≡ true → (1 ≤ n) × (n ≤ most)
in_range n most e = let p = and_parts (nat_le 1 n) (nat_le n most) e in (leb-true 1 n p.0, leb-true n most p.1)

-- what passes the tests is a shape
pub shape_is : (s t : Shape) → tested s ≡ Ok t → IsShape s
shape_is s t e =
    let checks = shape_checks s in
    let none = none_failed (first_failed checks) s t e in
    let zones = in_range s.zones MOST_ZONES (demanded (is_in_range 1 MOST_ZONES s.zones) (ZoneCount s.zones) (passed checks 1 none)) in
    let size = in_range s.size MOST_ZONE_BLOCKS (demanded (is_in_range 1 MOST_ZONE_BLOCKS s.size) (ZoneSize s.size) (passed checks 2 none)) in
    let capacity = in_range s.capacity s.size (demanded (is_in_range 1 s.size s.capacity) (ZoneCapacity s.capacity s.size) (passed checks 3 none)) in
    let limits = and_parts (is_in_range 1 s.limits.active_limit s.limits.open_limit) (nat_le s.limits.active_limit s.zones)
    (demanded (are_limits s.limits s.zones) (ResourceLimits s.limits.open_limit s.limits.active_limit s.zones) (passed checks 4 none)) in
    let opened = in_range s.limits.open_limit s.limits.active_limit limits.0 in
    let most = leb-true (s.zones * s.capacity * s.block) MOST_BYTES
    (demanded (nat_le (s.zones * s.capacity * s.block) MOST_BYTES) (TooLarge s.zones s.capacity s.block) (passed checks 5 none)) in
    record {
      block_size = demanded (is_block_size s.block) (BlockSize s.block) (passed checks 0 none);
      zones_some = zones.0;
      zones_most = zones.1;
      size_some = size.0;
      size_most = size.1;
      capacity_some = capacity.0;
      capacity_most = capacity.1;
      open_some = opened.0;
      open_most = opened.1;
      active_most = leb-true s.limits.active_limit s.zones limits.1;
      room = omega (arith, mul_assoc s.zones s.capacity s.block);
    }
