-- Reading the blocks of one zone after another's, each zone's into its room.
use Rattle.std.proofs.Common.{◌≡◌, ℕ, ◌+◌, ◌*◌, ◌<◌, ◌≤◌, zero, suc, List, [], ◌∷◌, ◌++◌, length, get_or, take, drop, Result, Ok, Err, refl, ap, sym, subst, ◌∙◌, append_assoc, arith, length-take}
use Rattle.std.proofs.lemmas.List.{take_at, take_all, drop_more, get_or-take}
use Rattle.std.proofs.Math.Nat.{suc-mul, mul-le-mul_right}
use Rattle.common_definitions.proofs.Proved.{agree_before, agree_behind}
use Rattle.zone_state.specs.Zone.{CountedZone}
use Rattle.image_text.specs.declared.fault.LoadFault.{LoadFault}
use Rattle.image_store.specs.ImageInMemory.{zones_of, zone_seen, no_counted_zone, IsFlat}
use Rattle.common_definitions.specs.Bytes.{spliced}
use Rattle.image_store.specs.Geometry.{Shape}
use Rattle.image_text.specs.steps.LoadStages.{spliced_in}
use Rattle.image_store.specs.Namespace.{ZoneWithBlocks}
use Rattle.common_definitions.specs.Readings.{◌>>=◌}
use Rattle.image_text.specs.Reading.{bytes_in, blocks_in}
use Rattle.image_text.proofs.ReadingCalls.{bind_ok, ok_is}
use Rattle.image_text.proofs.FilledBuffers.{Split, bytes_size}
use Rattle.image_store.proofs.Proved.{blocks-same, drop-next, drop-spliced, room_end, take-spliced, within}

abbrev pub Zones : Type 0
Zones = List ZoneWithBlocks × List ℕ

-- the zones that were read before, and those that are still read
abbrev pub with_zones : List ZoneWithBlocks → Result Zones LoadFault → Result Zones LoadFault
with_zones front read = read >>= λ x. Ok (front ++ x.0, x.1)

-- the bytes of the first zone's blocks, and what was read behind them
pub record ReadsZone (b : ℕ) (z : CountedZone) (zs : List CountedZone) (xs : List ℕ) (got : Zones) : Type 0 where
  pub front : Split
  pub first : bytes_in (z.written * b) xs ≡ Ok front
  pub later : Zones
  pub more : blocks_in b zs front.1 ≡ Ok later
  pub are : (zone_seen b z front.0 ∷ later.0, later.1) ≡ got

pub zone_read : (b : ℕ) (z : CountedZone) (zs : List CountedZone) (xs : List ℕ) (got : Zones) → blocks_in b (z ∷ zs) xs ≡ Ok got → ReadsZone b z zs xs got
zone_read b z zs xs got e =
    let a = bind_ok (bytes_in (z.written * b) xs) (λ front. blocks_in b zs front.1 >>= λ rest. Ok (zone_seen b z front.0 ∷ rest.0, rest.1)) got e in
    let c = bind_ok (blocks_in b zs a.0.1) (λ rest. Ok (zone_seen b z a.0.0 ∷ rest.0, rest.1)) got a.2 in
    record { front = a.0; first = a.1; later = c.0; more = c.1; are = ok_is (zone_seen b z a.0.0 ∷ c.0.0, c.0.1) got c.2 }

-- zones depend on the bytes of their rooms alone
zones-same : (b c : ℕ) (zs : List CountedZone) (xs ys : List ℕ) → ((z : ℕ) → z < length zs → (get_or zs z no_counted_zone).written ≤ c)
    → take (length zs * (c * b)) xs ≡ take (length zs * (c * b)) ys → zones_of b c zs xs ≡ zones_of b c zs ys
zones-same b c [] xs ys within e = refl
zones-same b c (z ∷ zs) xs ys within e =
    let more : c * b + length zs * (c * b) ≡ suc (length zs) * (c * b) = omega (arith, suc-mul (length zs) (c * b)) in
    let first = agree_before (c * b) (suc (length zs) * (c * b)) xs ys (omega (arith, more)) e in
    let later = agree_behind (c * b) (length zs * (c * b)) (suc (length zs) * (c * b)) xs ys more e in
    let low : z.written * b ≤ c * b = mul-le-mul_right b (within 0 (omega arith)) in
    ap (λ (bs : List (List ℕ)). let seen : ZoneWithBlocks = record { state = z.state; blocks = bs } in seen ∷ zones_of b c zs (drop (c * b) xs)) (blocks-same b z.written (c * b) xs ys low first)
    ∙ ap (λ (rest : List ZoneWithBlocks). zone_seen b z ys ∷ rest) (zones-same b c zs (drop (c * b) xs) (drop (c * b) ys) (λ k h. within (suc k) (omega arith)) later)

-- one zone more
zones-more : (b c : ℕ) (zs : List CountedZone) (xs : List ℕ) (i : ℕ) → i < length zs
    → zones_of b c (take (suc i) zs) xs ≡ zones_of b c (take i zs) xs ++ zone_seen b (get_or zs i no_counted_zone) (drop (i * (c * b)) xs) ∷ []
zones-more b c [] xs i h = absurd (omega arith)
zones-more b c (z ∷ zs) xs zero h =
    let start : 0 ≡ zero * (c * b) = omega arith in
    ap (λ (m : ℕ). zone_seen b z (drop m xs) ∷ []) start
zones-more b c (z ∷ zs) xs (suc i) h =
    ap (λ (rest : List ZoneWithBlocks). zone_seen b z xs ∷ rest) (zones-more b c zs (drop (c * b) xs) i (omega arith))
    ∙ ap (λ (ys : List ℕ). zone_seen b z xs ∷ (zones_of b c (take i zs) (drop (c * b) xs) ++ zone_seen b (get_or zs i no_counted_zone) ys ∷ []))
    (drop-next (c * b) i xs)

-- bytes read into a room are that zone's blocks, and leave the zones before it
filled : (s : Shape) (zs : List CountedZone) (xs : List ℕ) (i : ℕ) (new : List ℕ) → IsFlat s zs xs → i < length zs → length new ≡ (get_or zs i no_counted_zone).written * s.block
    → zones_of s.block s.capacity (take (suc i) zs) (spliced (i * (s.capacity * s.block)) new xs)
    ≡ zones_of s.block s.capacity (take i zs) xs ++ zone_seen s.block (get_or zs i no_counted_zone) new ∷ []
filled s zs xs i new flat inside size =
    let at = i * (s.capacity * s.block) in
    let z = get_or zs i no_counted_zone in
    let end = room_end s zs xs i flat inside in
    let in_list : at ≤ length xs = omega arith in
    let count : length (take i zs) ≡ i = omega (arith, length-take i zs) in
    let before : take (length (take i zs) * (s.capacity * s.block)) (spliced at new xs) ≡ take (length (take i zs) * (s.capacity * s.block)) xs =
    subst (λ (n : ℕ). take (n * (s.capacity * s.block)) (spliced at new xs) ≡ take (n * (s.capacity * s.block)) xs) (sym count) (take-spliced at at new xs (omega arith) in_list) in
    let fit : (k : ℕ) → k < length (take i zs) → (get_or (take i zs) k no_counted_zone).written ≤ s.capacity =
    λ k h. let low : k < i = omega arith in
    let known : k < length zs = omega arith in
    subst (λ (r : CountedZone). r.written ≤ s.capacity) (sym (get_or-take i zs k no_counted_zone low)) (within s zs xs k flat known) in
    let front : take (z.written * s.block) (new ++ drop (at + length new) xs) ≡ new = take_at new (drop (at + length new) xs) (z.written * s.block) size in
    let whole : take (z.written * s.block) new ≡ new = take_all (z.written * s.block) new (omega arith) in
    let here = blocks-same s.block z.written (z.written * s.block) (new ++ drop (at + length new) xs) new (omega arith) (front ∙ sym whole) in
    zones-more s.block s.capacity zs (spliced at new xs) i inside
    ∙ (ap (λ (first : List ZoneWithBlocks). first ++ zone_seen s.block z (drop at (spliced at new xs)) ∷ []) (zones-same s.block s.capacity (take i zs) (spliced at new xs) xs fit before)
    ∙ (ap (λ (ys : List ℕ). zones_of s.block s.capacity (take i zs) xs ++ zone_seen s.block z ys ∷ []) (drop-spliced at new xs in_list)
    ∙ ap (λ (bs : List (List ℕ)). let seen : ZoneWithBlocks = record { state = z.state; blocks = bs } in zones_of s.block s.capacity (take i zs) xs ++ seen ∷ []) here))

-- the blocks of a zone lie within its room
pub room_holds : (s : Shape) (zs : List CountedZone) (xs : List ℕ) (i : ℕ) → IsFlat s zs xs → i < length zs
    → i * (s.capacity * s.block) + (get_or zs i no_counted_zone).written * s.block ≤ length xs
room_holds s zs xs i flat inside =
    let end = room_end s zs xs i flat inside in
    let low : (get_or zs i no_counted_zone).written * s.block ≤ s.capacity * s.block = mul-le-mul_right s.block (within s zs xs i flat inside) in
    omega arith

abbrev put_in : ℕ → List ℕ → Split → Result Split LoadFault
put_in at xs part = Ok (spliced at part.0 xs, part.1)

rest_of : (s : Shape) (zs : List CountedZone) (i : ℕ) (rest : List ℕ) (front : List ZoneWithBlocks) → i < length zs
    → with_zones front (blocks_in s.block (drop i zs) rest)
    ≡ with_zones front (bytes_in ((get_or zs i no_counted_zone).written * s.block) rest >>= λ part. blocks_in s.block (drop (i + 1) zs) part.1 >>= λ more. Ok (zone_seen s.block (get_or zs i no_counted_zone) part.0 ∷ more.0, more.1))
rest_of s zs i rest front inside = ap (λ (left : List CountedZone). with_zones front (blocks_in s.block left rest)) (drop_more zs i no_counted_zone inside)

regroup : (front : List ZoneWithBlocks) (zone : ZoneWithBlocks) (read : Result Zones LoadFault) → with_zones front (read >>= λ more. Ok (zone ∷ more.0, more.1)) ≡ with_zones (front ++ zone ∷ []) read
regroup front zone (Ok more) = ap (λ (all : List ZoneWithBlocks). let r : Result Zones LoadFault = Ok (all, more.1) in r) (sym (append_assoc front (zone ∷ []) more.0))
regroup front zone (Err fault) = refl

-- one zone's blocks were read
pub goes_on : (s : Shape) (zs : List CountedZone) (xs ys rest after : List ℕ) (i : ℕ) (total : Result Zones LoadFault) → IsFlat s zs xs → i < length zs
    → spliced_in (i * (s.capacity * s.block)) ((get_or zs i no_counted_zone).written * s.block) xs rest ≡ Ok (ys, after)
    → with_zones (zones_of s.block s.capacity (take i zs) xs) (blocks_in s.block (drop i zs) rest) ≡ total
    → with_zones (zones_of s.block s.capacity (take (i + 1) zs) ys) (blocks_in s.block (drop (i + 1) zs) after) ≡ total
goes_on s zs xs ys rest after i total flat inside e so_far =
    let z = get_or zs i no_counted_zone in
    let at = i * (s.capacity * s.block) in
    let front = zones_of s.block s.capacity (take i zs) xs in
    let got = bind_ok (bytes_in (z.written * s.block) rest) (put_in at xs) (ys, after) e in
    let now : Split = (spliced at got.0.0 xs, got.0.1) in
    let then : Split = (ys, after) in
    let same : now ≡ then = ok_is now then got.2 in
    let size = bytes_size (z.written * s.block) rest got.0 got.1 in
    let next : i + 1 ≡ suc i = omega arith in
    let zones = ap (λ (n : ℕ). zones_of s.block s.capacity (take n zs) (spliced at got.0.0 xs)) next ∙ filled s zs xs i got.0.0 flat inside size in
    let step : with_zones front (blocks_in s.block (drop i zs) rest) ≡ with_zones (front ++ zone_seen s.block z got.0.0 ∷ []) (blocks_in s.block (drop (i + 1) zs) got.0.1) =
    rest_of s zs i rest front inside
    ∙ (ap (λ (r : Result Split LoadFault). with_zones front (r >>= λ part. blocks_in s.block (drop (i + 1) zs) part.1 >>= λ more. Ok (zone_seen s.block z part.0 ∷ more.0, more.1))) got.1
    ∙ regroup front (zone_seen s.block z got.0.0) (blocks_in s.block (drop (i + 1) zs) got.0.1)) in
    ap (λ (left : Split). with_zones (zones_of s.block s.capacity (take (i + 1) zs) left.0) (blocks_in s.block (drop (i + 1) zs) left.1)) (sym same)
    ∙ (ap (λ (seen : List ZoneWithBlocks). with_zones seen (blocks_in s.block (drop (i + 1) zs) got.0.1)) zones
    ∙ (sym step ∙ so_far))

-- other bytes of the same number have room too
pub flat_same : (s : Shape) (zs : List CountedZone) (xs ys : List ℕ) → IsFlat s zs xs → length ys ≡ length xs → IsFlat s zs ys
flat_same s zs xs ys flat size = record { shape = flat.shape; count = flat.count; room = size ∙ flat.room; capacities = flat.capacities; fits = flat.fits }
