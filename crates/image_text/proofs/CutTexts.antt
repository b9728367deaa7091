-- What is read of a text of which the end is missing, or behind which there is more.
use Rattle.std.proofs.Common.{◌≡◌, ◌≢◌, ℕ, ◌+◌, ◌-◌, ◌*◌, ◌<◌, ◌≤◌, suc, Bool, cond, List, [], ◌∷◌, ◌++◌, length, get_or, map, take, Result, Ok, Err, refl, ap, ◌∙◌, append_assoc, arith, length-append, inl, inr}
use Rattle.std.specs.List.{concat}
use Rattle.std.proofs.lemmas.Bool.Decides.{leb_tells}
use Rattle.std.proofs.lemmas.List.{length-map, length-take-le}
use Rattle.std.proofs.Math.Dec.{eqb-suc-zero}
use Rattle.std.proofs.Math.Seq.{take-append-add}
use Rattle.zone_state.specs.Zone.{CountedZone}
use Rattle.image_text.specs.declared.fault.LoadFault.{LoadFault}
use Rattle.image_text.specs.declared.fault.LoadFault.TheVariants as fault
use Rattle.image_store.specs.ImageInMemory.{zone_seen}
use Rattle.image_text.specs.declared.header.Header.{Header}
use Rattle.image_text.specs.declared.version.Version.{Version}
use Rattle.image_store.specs.Geometry.{Shape}
use Rattle.image_text.specs.Laws.{CutTextsAreTruncated, LongerTextsAreTrailing}
use Rattle.image_store.specs.Namespace.{ZoneWithBlocks, ZonedNamespace, no_zone, counted, counted_zones, shape, IsNamespace, namespace_with}
use Rattle.common_definitions.specs.Readings.{◌>>=◌}
use Rattle.image_text.specs.Reading.{bytes_in, header_told, zones_in, blocks_in, end_in, namespace_in}
use Rattle.image_text.specs.Text.{header, written_blocks, zone_rows, blocks_text, text_of}
use Rattle.image_text.specs.Version.{HasText}
use Rattle.image_store.proofs.Proved.{blocks_have_bytes}
use Rattle.image_text.proofs.TextsReadBack.{blocks_read, front_read, length-rows, told_of, total_small}
use Rattle.image_text.proofs.FilledBuffers.{Split, bytes_short, bytes_whole}
use Rattle.image_text.proofs.Headers.{header_length, header_read}
use Rattle.image_text.specs.steps.LoadStages.{after_blocks}
use Rattle.image_text.proofs.LoadStages.{after_header, after_rows, past_header, past_blocks}

-- ---- more behind the text

end_trailing : (more : List ℕ) → more ≢ [] → end_in more ≡ Err fault.Trailing
end_trailing [] some = absurd (some refl)
end_trailing (x ∷ more) some =
    ap (λ (test : Bool). let r : Result Unit LoadFault = cond test (Ok tt) (Err fault.Trailing) in r) (eqb-suc-zero (length more))

past_trailing : (s : Shape) (zones : List ZoneWithBlocks) (more : List ℕ) → more ≢ [] → after_blocks s zones more ≡ Err fault.Trailing
past_trailing s zones more some =
    ap (λ (r : Result Unit LoadFault). r >>= λ end. let all : Result ZonedNamespace LoadFault = Ok (namespace_with s zones) in all) (end_trailing more some)

pub longer_texts_are_trailing : LongerTextsAreTrailing
longer_texts_are_trailing version ns sound has more some =
    let s = shape ns in
    let zs = counted_zones ns in
    let front = header version s (written_blocks zs) in
    let last = blocks_text ns.zones in
    let parts : text_of version ns ++ more ≡ front ++ (zone_rows zs ++ (last ++ more)) =
    append_assoc front (zone_rows zs ++ last) more
    ∙ ap (λ (rest : List ℕ). front ++ rest) (append_assoc (zone_rows zs) last more) in
    ap namespace_in parts
    ∙ (front_read version ns (last ++ more) sound has
    ∙ (past_blocks s zs (last ++ more) more ns.zones (blocks_read ns.block ns.capacity ns.zones more sound.whole)
    ∙ past_trailing s ns.zones more some))

-- ---- the end of the text missing

-- where a front that is wanted whole lies, or is cut
cut_behind : (xs ys : List ℕ) (n : ℕ) → length xs ≤ n → take n (xs ++ ys) ≡ xs ++ take (n - length xs) ys
cut_behind xs ys n there =
    let parts : n ≡ length xs + (n - length xs) = omega arith in
    ap (λ (k : ℕ). take k (xs ++ ys)) parts ∙ take-append-add xs ys (n - length xs)

cut_within : (k : ℕ) (xs ys : List ℕ) (n : ℕ) → length xs ≡ k → n < k → bytes_in k (take n (xs ++ ys)) ≡ Err fault.Truncated
cut_within k xs ys n size short =
    let all : n ≤ length (xs ++ ys) = omega (arith, length-append xs ys) in
    bytes_short k (take n (xs ++ ys)) (omega (arith, length-take-le n (xs ++ ys) all))

blocks_cut : (b c : ℕ) (zones : List ZoneWithBlocks) (n : ℕ) → ((z i : ℕ) → i < length (get_or zones z no_zone).blocks → length (get_or (get_or zones z no_zone).blocks i []) ≡ b)
    → n < length (blocks_text zones) → blocks_in b (map (counted c) zones) (take n (blocks_text zones)) ≡ Err fault.Truncated
blocks_cut b c [] n whole h = absurd (omega arith)
blocks_cut b c (zone ∷ zones) n whole h =
    let front = concat zone.blocks in
    let rest = blocks_text zones in
    let size = blocks_have_bytes b zone.blocks (whole 0) in
    let read : Result Split LoadFault → Result (List ZoneWithBlocks × List ℕ) LoadFault =
    λ r. r >>= λ first. blocks_in b (map (counted c) zones) first.1 >>= λ more. Ok (zone_seen b (counted c zone) first.0 ∷ more.0, more.1) in
    elim (leb_tells (length front) n) [
      | inl there ↦
          ap (blocks_in b (map (counted c) (zone ∷ zones))) (cut_behind front rest n there.1)
          ∙ (ap read (bytes_whole (length zone.blocks * b) front (take (n - length front) rest) size)
          ∙ ap (λ (r : Result (List ZoneWithBlocks × List ℕ) LoadFault). r >>= λ more. Ok (zone_seen b (counted c zone) front ∷ more.0, more.1))
          (blocks_cut b c zones (n - length front) (λ z i. whole (suc z) i) (omega (arith, length-append front rest, there.1))))
      | inr short ↦ ap read (cut_within (length zone.blocks * b) front rest n size (omega (arith, short.1, size)))
    ]

-- the rows cut, or what is behind them
past_cut_rows : (version : Version) (ns : ZonedNamespace) → IsNamespace ns → HasText version (shape ns) → (n : ℕ) → n < length (zone_rows (counted_zones ns) ++ blocks_text ns.zones)
    → namespace_in (header version (shape ns) (written_blocks (counted_zones ns)) ++ take n (zone_rows (counted_zones ns) ++ blocks_text ns.zones)) ≡ Err fault.Truncated
past_cut_rows version ns sound has n h =
    let s = shape ns in
    let zs = counted_zones ns in
    let total = written_blocks zs in
    let front = zone_rows zs in
    let last = blocks_text ns.zones in
    let cut = take n (front ++ last) in
    let size : length front ≡ s.zones * 8 = length-rows zs ∙ ap (λ (k : ℕ). k * 8) (length-map ns.zones (counted ns.capacity)) in
    let zones : Result Split LoadFault → Result (List CountedZone × List ℕ) LoadFault =
    λ r. r >>= λ part. zones_in 0 s.capacity s.zones part.0 >>= λ zs. Ok (zs, part.1) in
    elim (leb_tells (length front) n) [
      | inl there ↦
          let left = n - length front in
          ap (λ (xs : List ℕ). namespace_in (header version s total ++ xs)) (cut_behind front last n there.1)
          ∙ (front_read version ns (take left last) sound has
          ∙ ap (λ (r : Result (List ZoneWithBlocks × List ℕ) LoadFault). r >>= λ blocks. after_blocks s blocks.0 blocks.1)
          (blocks_cut ns.block ns.capacity ns.zones left sound.whole (omega (arith, length-append front last, there.1))))
      | inr short ↦
          past_header (header version s total ++ cut) cut (told_of version ns) (header_read version s total cut sound.shape has (total_small ns sound))
          ∙ ap (λ (r : Result (List CountedZone × List ℕ) LoadFault). r >>= λ got. after_rows (told_of version ns) got.0 got.1)
          (ap zones (cut_within (s.zones * 8) front last n size (omega (arith, short.1, size))))
    ]

pub cut_texts_are_truncated : CutTextsAreTruncated
unfolding namespace_in
cut_texts_are_truncated version ns sound has n h =
    let s = shape ns in
    let total = written_blocks (counted_zones ns) in
    let front = header version s total in
    let size = header_length version s total in
    let rest = zone_rows (counted_zones ns) ++ blocks_text ns.zones in
    let told : Result Split LoadFault → Result (Header × List ℕ) LoadFault =
    λ r. r >>= λ part. header_told part.0 >>= λ header. Ok (header, part.1) in
    elim (leb_tells (length front) n) [
      | inl there ↦
          ap namespace_in (cut_behind front rest n there.1)
          ∙ past_cut_rows version ns sound has (n - length front) (omega (arith, length-append front rest, there.1))
      | inr short ↦
          ap (λ (r : Result (Header × List ℕ) LoadFault). r >>= λ got. after_header got.0 got.1)
          (ap told (cut_within 64 front rest n size (omega (arith, short.1, size))))
    ]
