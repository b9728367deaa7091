-- Zones that lie in one list of bytes, each in a room of the same size.
use Rattle.std.proofs.Common.{◌≡◌, ℕ, ◌+◌, ◌*◌, ◌<◌, ◌≤◌, zero, suc, List, [], ◌∷◌, ◌++◌, length, get_or, set, take, drop, refl, ap, sym, ◌∙◌, arith, length-drop}
use Rattle.std.proofs.lemmas.List.{take_at, take_all}
use Rattle.std.proofs.Math.Nat.{suc-mul, mul-le-mul_right, add-mul}
use Rattle.zone_state.specs.Zone.{CountedZone}
use Rattle.image_store.specs.ImageInMemory.{zones_of, zone_seen, no_counted_zone}
use Rattle.common_definitions.specs.Bytes.{pieces, spliced}
use Rattle.image_store.specs.Namespace.{ZoneWithBlocks, no_zone}
use Rattle.image_store.proofs.BlocksOfBytes.{blocks-same, blocks-add, drop-next, take-spliced, drop-spliced, drop-spliced-past, drop-spliced-later}

pub length-zones : (b c : ℕ) (zs : List CountedZone) (xs : List ℕ) → length (zones_of b c zs xs) ≡ length zs
length-zones b c [] xs = refl
length-zones b c (z ∷ zs) xs = ap suc (length-zones b c zs (drop (c * b) xs))

-- a zone is what lies at the start of its room
pub zone-at : (b c : ℕ) (zs : List CountedZone) (xs : List ℕ) (z : ℕ) → z < length zs → get_or (zones_of b c zs xs) z no_zone ≡ zone_seen b (get_or zs z no_counted_zone) (drop (z * (c * b)) xs)
zone-at b c [] xs z h = absurd (omega arith)
zone-at b c (r ∷ zs) xs zero h =
    let start : zero * (c * b) ≡ 0 = omega arith in
    ap (λ (m : ℕ). zone_seen b r (drop m xs)) (sym start)
zone-at b c (r ∷ zs) xs (suc z) h =
    zone-at b c zs (drop (c * b) xs) z (omega arith)
    ∙ ap (zone_seen b (get_or zs z no_counted_zone)) (drop-next (c * b) z xs)

-- another counted zone in one place changes that zone alone
pub zones-set : (b c : ℕ) (zs : List CountedZone) (xs : List ℕ) (z : ℕ) (r : CountedZone) → zones_of b c (set zs z r) xs ≡ set (zones_of b c zs xs) z (zone_seen b r (drop (z * (c * b)) xs))
zones-set b c [] xs z r = refl
zones-set b c (y ∷ zs) xs zero r =
    let start : 0 ≡ zero * (c * b) = omega arith in
    ap (λ (m : ℕ). zone_seen b r (drop m xs) ∷ zones_of b c zs (drop (c * b) xs)) start
zones-set b c (y ∷ zs) xs (suc z) r =
    ap (λ (rest : List ZoneWithBlocks). zone_seen b y xs ∷ rest) (zones-set b c zs (drop (c * b) xs) z r)
    ∙ ap (λ (ys : List ℕ). zone_seen b y xs ∷ set (zones_of b c zs (drop (c * b) xs)) z (zone_seen b r ys)) (drop-next (c * b) z xs)

-- blocks put behind those that a room has
blocks-grown : (b w n : ℕ) (new xs : List ℕ) → length new ≡ n * b → w * b ≤ length xs → pieces b (w + n) (spliced (w * b) new xs) ≡ pieces b w xs ++ pieces b n new
blocks-grown b w n new xs size room =
    let before = blocks-same b w (w * b) (spliced (w * b) new xs) xs (omega arith) (take-spliced (w * b) (w * b) new xs (omega arith) room) in
    let front : take (n * b) (new ++ drop (w * b + length new) xs) ≡ new = take_at new (drop (w * b + length new) xs) (n * b) size in
    let whole : take (n * b) new ≡ new = take_all (n * b) new (omega arith) in
    let behind = blocks-same b n (n * b) (new ++ drop (w * b + length new) xs) new (omega arith) (front ∙ sym whole) in
    blocks-add b w n (spliced (w * b) new xs)
    ∙ (ap (λ (bs : List (List ℕ)). bs ++ pieces b n (drop (w * b) (spliced (w * b) new xs))) before
    ∙ ap (λ (bs : List (List ℕ)). pieces b w xs ++ bs) (ap (pieces b n) (drop-spliced (w * b) new xs room) ∙ behind))

-- the new bytes are n blocks, for which a zone with w written ones has room
pub record HasRoom (b c w n : ℕ) (new : List ℕ) : Type 0 where
  pub size : length new ≡ n * b
  pub room : w + n ≤ c

-- so they end within the zone's room
pub write_end : (b c w n : ℕ) (new : List ℕ) → HasRoom b c w n new → w * b + length new ≤ c * b
write_end b c w n new h =
    let product : (w + n) * b ≤ c * b = mul-le-mul_right b h.room in
    omega (arith, add-mul w n b, h.size)

pub zones-append : (b c : ℕ) (zs : List CountedZone) (xs : List ℕ) (z n : ℕ) (r : CountedZone) (new : List ℕ)
    → z < length zs → length zs * (c * b) ≤ length xs → ((y : ℕ) → y < length zs → (get_or zs y no_counted_zone).written ≤ c)
    → HasRoom b c (get_or zs z no_counted_zone).written n new → r.written ≡ (get_or zs z no_counted_zone).written + n
    → zones_of b c (set zs z r) (spliced (z * (c * b) + (get_or zs z no_counted_zone).written * b) new xs)
    ≡ set (zones_of b c zs xs) z (record { state = r.state; blocks = pieces b (get_or zs z no_counted_zone).written (drop (z * (c * b)) xs) ++ pieces b n new })
zones-append b c [] xs z n r new h long within room grown = absurd (omega arith)
zones-append b c (y ∷ zs) xs zero n r new h long within room grown =
    let start : zero * (c * b) + y.written * b ≡ y.written * b = omega arith in
    let none : 0 ≡ zero * (c * b) = omega arith in
    let reach = write_end b c y.written n new room in
    let room_of_one : c * b ≤ length xs = omega (arith, suc-mul (length zs) (c * b)) in
    let rest = drop-spliced-past (c * b) (y.written * b) new xs reach (omega arith) in
    ap (λ (m : ℕ). zones_of b c (r ∷ zs) (spliced m new xs)) start
    ∙ (ap (λ (m : ℕ). let bs : List (List ℕ) = pieces b m (spliced (y.written * b) new xs) in record { state = r.state; blocks = bs } ∷ zones_of b c zs (drop (c * b) (spliced (y.written * b) new xs))) grown
    ∙ (ap (λ (bs : List (List ℕ)). let seen : ZoneWithBlocks = record { state = r.state; blocks = bs } in seen ∷ zones_of b c zs (drop (c * b) (spliced (y.written * b) new xs))) (blocks-grown b y.written n new xs room.size (omega arith))
    ∙ (ap (λ (ys : List ℕ). let seen : ZoneWithBlocks = record { state = r.state; blocks = pieces b y.written xs ++ pieces b n new } in seen ∷ zones_of b c zs ys) rest
    ∙ ap (λ (m : ℕ). let seen : ZoneWithBlocks = record { state = r.state; blocks = pieces b y.written (drop m xs) ++ pieces b n new } in seen ∷ zones_of b c zs (drop (c * b) xs)) none)))
zones-append b c (y ∷ zs) xs (suc z) n r new h long within room grown =
    let at = z * (c * b) + (get_or zs z no_counted_zone).written * b in
    let place : suc z * (c * b) + (get_or zs z no_counted_zone).written * b ≡ c * b + at = omega (arith, suc-mul z (c * b)) in
    let inside : z < length zs = omega arith in
    let reach = write_end b c (get_or zs z no_counted_zone).written n new room in
    let rooms : suc z * (c * b) ≤ length zs * (c * b) = mul-le-mul_right (c * b) inside in
    let end : c * b + at ≤ length xs = omega (arith, suc-mul (length zs) (c * b), suc-mul z (c * b)) in
    let low : y.written * b ≤ c * b = mul-le-mul_right b (within 0 (omega arith)) in
    let first = blocks-same b y.written (c * b) (spliced (c * b + at) new xs) xs low (take-spliced (c * b) (c * b + at) new xs (omega arith) end) in
    let later = drop-spliced-later (c * b) at new xs end in
    let fewer : length zs * (c * b) ≤ length (drop (c * b) xs) = omega (arith, suc-mul (length zs) (c * b), length-drop (c * b) xs) in
    let next = zones-append b c zs (drop (c * b) xs) z n r new inside fewer (λ k in_list. within (suc k) (omega arith)) room grown in
    let base = drop-next (c * b) z xs in
    ap (λ (m : ℕ). zones_of b c (y ∷ set zs z r) (spliced m new xs)) place
    ∙ (ap (λ (bs : List (List ℕ)). let seen : ZoneWithBlocks = record { state = y.state; blocks = bs } in seen ∷ zones_of b c (set zs z r) (drop (c * b) (spliced (c * b + at) new xs))) first
    ∙ (ap (λ (ys : List ℕ). zone_seen b y xs ∷ zones_of b c (set zs z r) ys) later
    ∙ (ap (λ (rest : List ZoneWithBlocks). zone_seen b y xs ∷ rest) next
    ∙ ap (λ (ys : List ℕ). let seen : ZoneWithBlocks = record { state = r.state; blocks = pieces b (get_or zs z no_counted_zone).written ys ++ pieces b n new } in zone_seen b y xs ∷ set (zones_of b c zs (drop (c * b) xs)) z seen) base)))
