-- What is read as a namespace is one that an image can have.
use Rattle.std.proofs.Common.{◌≡◌, ℕ, ◌*◌, ◌<◌, zero, suc, List, [], ◌∷◌, length, get_or, map, Ok, ap, sym, subst, ◌∙◌, arith}
use Rattle.std.proofs.lemmas.Bool.{leb-true, and_parts}
use Rattle.std.proofs.lemmas.List.{get_or-map, length-map}
use Rattle.std.specs.Prelude.{nat_le, ◌&&◌}
use Rattle.zone_state.specs.Zone.{CountedZone, IsZone}
use Rattle.zone_resources.specs.Admission.{IsWithin}
use Rattle.zone_resources.specs.Counts.{open_count, active_count}
use Rattle.zone_resources.specs.declared.admission.Limits.{Limits}
use Rattle.image_text.specs.declared.fault.LoadFault.TheVariants as fault
use Rattle.common_definitions.specs.Bytes.{AreBytes, pieces}
use Rattle.image_store.specs.ImageInMemory.{no_counted_zone, zone_seen}
use Rattle.image_store.specs.Geometry.{Shape, IsShape}
use Rattle.image_text.specs.Laws.{LoadedTextsAreNamespaces}
use Rattle.image_store.specs.Namespace.{ZoneWithBlocks, no_zone, counted, IsNamespace, namespace_with}
use Rattle.image_text.specs.Reading.{limits_kept, blocks_in}
use Rattle.image_text.proofs.ReadingCalls.{ok_is, chosen}
use Rattle.common_definitions.proofs.Proved.{front_fit, rest_fit}
use Rattle.image_store.proofs.Proved.{blocks_are_bytes, blocks_are_counted, blocks_are_whole, resized}
use Rattle.image_text.proofs.FilledBuffers.{bytes_parts, bytes_size}
use Rattle.image_text.proofs.LoadStages.{HaveFit}
use Rattle.image_text.proofs.OnlyTextsLoad.{size_read, text_parts}
use Rattle.image_text.proofs.BlocksRead.{zone_read}

-- zones of whole blocks of bytes
record AreWhole (block : ℕ) (zones : List ZoneWithBlocks) : Type 0 where
  pub whole : (z i : ℕ) → i < length (get_or zones z no_zone).blocks → length (get_or (get_or zones z no_zone).blocks i []) ≡ block
  pub bytes : (z i : ℕ) → AreBytes (get_or (get_or zones z no_zone).blocks i [])

-- one more zone
first_whole : (b : ℕ) (zone : ZoneWithBlocks) (zones : List ZoneWithBlocks)
    → ((i : ℕ) → i < length zone.blocks → length (get_or zone.blocks i []) ≡ b) → AreWhole b zones
    → (z i : ℕ) → i < length (get_or (zone ∷ zones) z no_zone).blocks → length (get_or (get_or (zone ∷ zones) z no_zone).blocks i []) ≡ b
first_whole b zone zones whole more zero i h = whole i h
first_whole b zone zones whole more (suc z) i h = more.whole z i h

first_bytes : (b : ℕ) (zone : ZoneWithBlocks) (zones : List ZoneWithBlocks)
    → ((i : ℕ) → AreBytes (get_or zone.blocks i [])) → AreWhole b zones
    → (z i : ℕ) → AreBytes (get_or (get_or (zone ∷ zones) z no_zone).blocks i [])
first_bytes b zone zones bytes more zero i = bytes i
first_bytes b zone zones bytes more (suc z) i = more.bytes z i

blocks_whole : (b : ℕ) (zs : List CountedZone) (xs : List ℕ) (got : List ZoneWithBlocks × List ℕ) → AreBytes xs → blocks_in b zs xs ≡ Ok got → AreWhole b got.0
blocks_whole b [] xs got fit e =
    subst (λ (x : List ZoneWithBlocks × List ℕ). AreWhole b x.0) (ok_is ([], xs) got e)
    (record { whole = λ z i h. absurd (omega arith); bytes = λ z i k. omega arith })
blocks_whole b (z ∷ zs) xs got fit e =
    let r = zone_read b z zs xs got e in
    let new = r.front.0 in
    let size = bytes_size (z.written * b) xs r.front r.first in
    let all = subst AreBytes (sym (bytes_parts (z.written * b) xs r.front r.first)) fit in
    let more = blocks_whole b zs r.front.1 r.later (rest_fit new r.front.1 all) r.more in
    let first = zone_seen b z new in
    subst (λ (x : List ZoneWithBlocks × List ℕ). AreWhole b x.0) r.are (record {
      whole = first_whole b first r.later.0 (λ i (h : i < length (pieces b z.written new)). blocks_are_whole b z.written i new (omega (arith, blocks_are_counted b z.written new)) (omega arith)) more;
      bytes = first_bytes b first r.later.0 (blocks_are_bytes b z.written new (front_fit new r.front.1 all)) more;
    })

pub kept_within : (limits : Limits) (zs : List CountedZone) (done : Unit {0}) → limits_kept limits zs ≡ Ok done → IsWithin zs limits
kept_within limits zs done e =
    let test = (chosen (nat_le (open_count zs) limits.open_limit && nat_le (active_count zs) limits.active_limit) tt done (fault.Limits (open_count zs) (active_count zs) limits) e).0 in
    let p = and_parts (nat_le (open_count zs) limits.open_limit) (nat_le (active_count zs) limits.active_limit) test in
    record { opened = leb-true (open_count zs) limits.open_limit p.0; active = leb-true (active_count zs) limits.active_limit p.1 }

-- the zones, whose rows are read
zone_allowed : (c : ℕ) (zs : List CountedZone) (zones : List ZoneWithBlocks) → map (counted c) zones ≡ zs
    → ((k : ℕ) → k < length zs → IsZone (get_or zs k no_counted_zone).state (get_or zs k no_counted_zone).written c)
    → (z : ℕ) → z < length zones → IsZone (get_or zones z no_zone).state (length (get_or zones z no_zone).blocks) c
zone_allowed c zs zones same each z h =
    let there : z < length zs = omega (arith, ap length same, length-map zones (counted c)) in
    let read = ap (λ (all : List CountedZone). get_or all z no_counted_zone) (sym same) ∙ get_or-map (counted c) zones z no_zone no_counted_zone h in
    subst (λ (r : CountedZone). IsZone r.state r.written c) read (each z there)

-- the parts of a text make a namespace
parts_are : (s : Shape) (zs : List CountedZone) (zones : List ZoneWithBlocks) → IsShape s → HaveFit s.capacity s.zones zs → IsWithin zs s.limits → map (counted s.capacity) zones ≡ zs → AreWhole s.block zones
    → IsNamespace (namespace_with s zones)
parts_are s zs zones known fit within same whole = record {
  shape = subst (λ (n : ℕ). IsShape (resized s n)) (size_read s zs zones fit.count same) known;
  fits = zone_allowed s.capacity zs zones same (λ k less. (fit.each k less).1);
  within = subst (λ (all : List CountedZone). IsWithin all s.limits) (sym same) within;
  whole = whole.whole;
  bytes = whole.bytes;
}

pub loaded_texts_are_namespaces : LoadedTextsAreNamespaces
loaded_texts_are_namespaces bytes ns fit e =
    let p = text_parts bytes ns fit e in
    let s = p.told.geometry in
    subst IsNamespace p.is
    (parts_are s p.zones p.blocks p.headed.known p.rows.fit (kept_within s.limits p.zones p.limited.0 p.limited.1) p.written.counted
    (blocks_whole s.block p.zones p.later (p.blocks, p.last) p.later_fit p.blocks_read))
