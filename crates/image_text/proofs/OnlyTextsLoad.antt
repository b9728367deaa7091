-- What is read as a namespace is a text of that namespace.
use Rattle.std.proofs.Common.{◌≡◌, ℕ, ◌+◌, ◌*◌, ◌<◌, ◌≤◌, zero, suc, List, [], ◌∷◌, ◌++◌, length, get_or, map, take, drop, Option, Ok, refl, ap, sym, subst, ◌∙◌, append_assoc, arith, length-drop, unwrap_or}
use Rattle.std.proofs.lemmas.Bool.{eqb-true}
use Rattle.std.proofs.lemmas.List.{append-nil, drop_all, length-map, length-take-le, nil_from_length, take_all, take-append-drop}
use Rattle.std.proofs.Math.Nat.{suc-mul}
use Rattle.std.specs.List.{concat}
use Rattle.std.specs.Prelude.{◌==◌, IfSome}
use Rattle.zone_state.specs.declared.state.ZoneState.{ZoneState}
use Rattle.zone_state.specs.State.{code_of}
use Rattle.zone_state.specs.Zone.{CountedZone}
use Rattle.zone_state.proofs.Proved.{codes_are_distinct}
use Rattle.byteorder.specs.Endian.{little_bytes, little_number}
use Rattle.image_text.specs.declared.fault.LoadFault.TheVariants as fault
use Rattle.common_definitions.specs.Bytes.{AreBytes, pieces}
use Rattle.image_store.specs.ImageInMemory.{no_counted_zone}
use Rattle.image_text.specs.declared.header.Header.{Header}
use Rattle.image_text.specs.declared.version.Version.{Version}
use Rattle.image_text.specs.declared.version.Version.TheVariants.{One, Two}
use Rattle.image_store.specs.Geometry.{Shape, IsShape}
use Rattle.image_text.specs.Laws.{OnlyTextsLoad}
use Rattle.image_store.specs.Namespace.{ZoneWithBlocks, ZonedNamespace, counted, shape, namespace_with}
use Rattle.common_definitions.specs.Readings.{◌>>=◌}
use Rattle.image_text.specs.Reading.{total_told, header_told, header_in, total_kept, zone_in, zones_in, zone_rows_in, limits_kept, blocks_in, end_in, namespace_in, bytes_in}
use Rattle.image_text.specs.Text.{header, written_blocks, zone_row, zone_rows, blocks_text, text_of}
use Rattle.image_text.specs.Version.{HasText}
use Rattle.image_text.proofs.ReadingCalls.{bind_ok, ok_is, chosen}
use Rattle.common_definitions.proofs.Proved.{bytes_spelled, front_fit, rest_fit}
use Rattle.image_text.proofs.FilledBuffers.{bytes_parts, bytes_size}
use Rattle.image_text.proofs.HeaderParts.{header_parts}
use Rattle.image_text.proofs.Headers.{total_in}
use Rattle.image_store.proofs.Proved.{blocks_keep_bytes, counted_seen, resized}
use Rattle.image_text.specs.steps.LoadStages.{after_blocks, after_limits}
use Rattle.image_text.proofs.LoadStages.{HaveFit, after_header, after_rows, after_total, zones_fit}
use Rattle.image_text.proofs.BlocksRead.{zone_read}
use Rattle.image_text.proofs.SpelledParts.{zeros_spelled, header_spelled}
use Rattle.image_text.proofs.ToldRows.{row_read, row_right}

-- a header that is read stands in front
pub record IsHeaded (bytes : List ℕ) (told : Header) (rest : List ℕ) : Type 0 where
  pub version : Version
  pub total : ℕ
  pub spelled : header version told.geometry total ++ rest ≡ bytes
  pub known : IsShape told.geometry
  pub has : HasText version told.geometry
  pub same : told.total ≡ total_in version total

total_is : (version : Version) (xs : List ℕ) → total_told version xs ≡ total_in version (unwrap_or (total_told version xs) 0)
total_is One xs = refl
total_is Two xs = refl

header_only : (bytes : List ℕ) (told : Header) (rest : List ℕ) → AreBytes bytes → header_in bytes ≡ Ok (told, rest) → IsHeaded bytes told rest
header_only bytes told rest fit e =
    let a = bind_ok (bytes_in 64 bytes) (λ front. header_told front.0 >>= λ all. Ok (all, front.1)) (told, rest) e in
    let b = bind_ok (header_told a.0.0) (λ all. Ok (all, a.0.1)) (told, rest) a.2 in
    let parts = bytes_parts 64 bytes a.0 a.1 in
    let size = bytes_size 64 bytes a.0 a.1 in
    let front = front_fit a.0.0 a.0.1 (subst AreBytes (sym parts) fit) in
    let h = header_parts a.0.0 b.0 b.1 in
    let total = unwrap_or (total_told h.version a.0.0) 0 in
    let spelled = header_spelled h.version a.0.0 size front h.begins h.zeros in
    let both = ok_is (b.0, a.0.1) (told, rest) b.2 in
    subst (λ (x : Header × List ℕ). IsHeaded bytes x.0 x.1) both (record {
      version = h.version;
      total = total;
      spelled = ap (λ (s : Shape). header h.version s total ++ a.0.1) (sym h.same) ∙ (ap (λ (xs : List ℕ). xs ++ a.0.1) spelled ∙ parts);
      known = h.known;
      has = h.has;
      same = h.total ∙ total_is h.version a.0.0;
    })

-- a number of written blocks that is told is that of the rows
header_counted : (version : Version) (s : Shape) (total : ℕ) (zs : List CountedZone) (done : Unit {0}) → total_kept (total_in version total) zs ≡ Ok done
    → header version s total ≡ header version s (written_blocks zs)
header_counted One s total zs done e = refl
header_counted Two s total zs done e =
    ap (header Two s) (eqb-true total (written_blocks zs) (chosen (total == written_blocks zs) tt done (fault.Total total (written_blocks zs)) e).0)

-- a row that is read is spelled so,
row_only : (zone capacity : ℕ) (xs : List ℕ) (z : CountedZone) → length xs ≡ 8 → AreBytes xs → zone_in zone capacity xs ≡ Ok z → zone_row z ≡ xs
row_only zone capacity [] z size fit e = absurd (omega arith)
row_only zone capacity (a ∷ []) z size fit e = absurd (omega arith)
row_only zone capacity (a ∷ p ∷ []) z size fit e = absurd (omega arith)
row_only zone capacity (a ∷ p ∷ q ∷ []) z size fit e = absurd (omega arith)
row_only zone capacity (a ∷ p ∷ q ∷ r ∷ xs) z size fit e =
    let few : length xs ≡ 4 = omega arith in
    let told = row_right zone capacity (a ∷ p ∷ q ∷ r ∷ xs) z e in
    let code = subst (λ (state : Option ZoneState). IfSome state (λ s. code_of s ≡ a)) told.state (codes_are_distinct.back a) in
    let zeros = zeros_spelled (p ∷ q ∷ r ∷ []) told.zeros in
    let none : drop 4 xs ≡ [] = drop_all 4 xs (omega arith) in
    let spelled : little_bytes 4 (little_number 4 xs) ≡ xs =
    sym (append-nil (little_bytes 4 (little_number 4 xs))) ∙ (ap (λ (rest : List ℕ). little_bytes 4 (little_number 4 xs) ++ rest) (sym none)
    ∙ bytes_spelled 4 xs (omega arith) (rest_fit (a ∷ p ∷ q ∷ r ∷ []) xs fit)) in
    ap (λ (first : ℕ). first ∷ 0 ∷ 0 ∷ 0 ∷ little_bytes 4 z.written) code
    ∙ (ap (λ (n : ℕ). a ∷ 0 ∷ 0 ∷ 0 ∷ little_bytes 4 n) (sym told.written)
    ∙ (ap (λ (rest : List ℕ). a ∷ 0 ∷ 0 ∷ 0 ∷ rest) spelled
    ∙ ap (λ (front : List ℕ). a ∷ (front ++ xs)) zeros))

-- and so are rows
zones_only : (zone capacity n : ℕ) (xs : List ℕ) (zs : List CountedZone) → length xs ≡ n * 8 → AreBytes xs → zones_in zone capacity n xs ≡ Ok zs → zone_rows zs ≡ xs
zones_only zone capacity zero xs zs size fit e =
    let none : xs ≡ [] = nil_from_length xs (omega arith) in
    let same : [] ≡ zs = ok_is [] zs e in
    subst (λ (read : List CountedZone). zone_rows read ≡ xs) same (sym none)
zones_only zone capacity (suc n) xs zs size fit e =
    let r = row_read zone capacity n xs zs e in
    let parts = take-append-drop 8 xs in
    let all = subst AreBytes (sym parts) fit in
    let long : 8 ≤ length xs = omega (arith, suc-mul n 8) in
    let first = row_only zone capacity (take 8 xs) r.first (length-take-le 8 xs long) (front_fit (take 8 xs) (drop 8 xs) all) r.told in
    let more = zones_only (zone + 1) capacity n (drop 8 xs) r.later (omega (arith, length-drop 8 xs, suc-mul n 8)) (rest_fit (take 8 xs) (drop 8 xs) all) r.more in
    subst (λ (read : List CountedZone). zone_rows read ≡ xs) r.are
    (ap (λ (front : List ℕ). front ++ zone_rows r.later) first ∙ (ap (λ (rest : List ℕ). take 8 xs ++ rest) more ∙ parts))

-- blocks that are read are spelled so
pub record AreWritten (capacity : ℕ) (zs : List CountedZone) (xs : List ℕ) (got : List ZoneWithBlocks × List ℕ) : Type 0 where
  pub spelled : blocks_text got.0 ++ got.1 ≡ xs
  pub counted : map (counted capacity) got.0 ≡ zs

pub blocks_only : (b capacity : ℕ) (zs : List CountedZone) (xs : List ℕ) (got : List ZoneWithBlocks × List ℕ) → ((k : ℕ) → k < length zs → (get_or zs k no_counted_zone).capacity ≡ capacity)
    → blocks_in b zs xs ≡ Ok got → AreWritten capacity zs xs got
blocks_only b capacity [] xs got same e =
    subst (AreWritten capacity [] xs) (ok_is ([], xs) got e) (record { spelled = refl; counted = refl })
blocks_only b capacity (z ∷ zs) xs got same e =
    let r = zone_read b z zs xs got e in
    let new = r.front.0 in
    let size = bytes_size (z.written * b) xs r.front r.first in
    let front : concat (pieces b z.written new) ≡ new = blocks_keep_bytes b z.written new ∙ take_all (z.written * b) new (omega arith) in
    let rest = blocks_only b capacity zs r.front.1 r.later (λ k h. same (suc k) (omega arith)) r.more in
    subst (AreWritten capacity (z ∷ zs) xs) r.are (record {
      spelled = append_assoc (concat (pieces b z.written new)) (blocks_text r.later.0) r.later.1
          ∙ (ap (λ (first : List ℕ). first ++ (blocks_text r.later.0 ++ r.later.1)) front
          ∙ (ap (λ (more : List ℕ). new ++ more) rest.spelled ∙ bytes_parts (z.written * b) xs r.front r.first));
      counted = ap (λ (first : CountedZone). first ∷ map (counted capacity) r.later.0) (counted_seen b capacity z new (same 0 (omega arith))) ∙ ap (λ (more : List CountedZone). z ∷ more) rest.counted;
    })

-- rows that are read stand in front, and there are as many zones as were told, which fit the shape
pub record AreZoneRows (s : Shape) (bytes : List ℕ) (zs : List CountedZone) (rest : List ℕ) : Type 0 where
  pub spelled : zone_rows zs ++ rest ≡ bytes
  pub fit : HaveFit s.capacity s.zones zs

rows_only : (s : Shape) (bytes : List ℕ) (got : List CountedZone × List ℕ) → IsShape s → AreBytes bytes → zone_rows_in s bytes ≡ Ok got → AreZoneRows s bytes got.0 got.1
rows_only s bytes got known fit e =
    let r = bind_ok (bytes_in (s.zones * 8) bytes) (λ front. zones_in 0 s.capacity s.zones front.0 >>= λ all. Ok (all, front.1)) got e in
    let q = bind_ok (zones_in 0 s.capacity s.zones r.0.0) (λ all. Ok (all, r.0.1)) got r.2 in
    let parts = bytes_parts (s.zones * 8) bytes r.0 r.1 in
    let front = front_fit r.0.0 r.0.1 (subst AreBytes (sym parts) fit) in
    let rows = zones_only 0 s.capacity s.zones r.0.0 q.0 (bytes_size (s.zones * 8) bytes r.0 r.1) front q.1 in
    subst (λ (x : List CountedZone × List ℕ). AreZoneRows s bytes x.0 x.1) (ok_is (q.0, r.0.1) got q.2) (record {
      spelled = ap (λ (xs : List ℕ). xs ++ r.0.1) rows ∙ parts;
      fit = zones_fit 0 s.capacity s.zones r.0.0 q.0 known.capacity_some q.1;
    })

-- header, rows and blocks, one behind another
joined : (front : List ℕ) (zs : List CountedZone) (zones : List ZoneWithBlocks) (bytes rest later last : List ℕ) → front ++ rest ≡ bytes → zone_rows zs ++ later ≡ rest → blocks_text zones ++ last ≡ later → last ≡ []
    → bytes ≡ front ++ (zone_rows zs ++ blocks_text zones)
joined front zs zones bytes rest later last start rows blocks ended =
    let written : later ≡ blocks_text zones = sym blocks ∙ (ap (λ (xs : List ℕ). blocks_text zones ++ xs) ended ∙ append-nil (blocks_text zones)) in
    sym start
    ∙ (ap (λ (xs : List ℕ). front ++ xs) (sym rows)
    ∙ ap (λ (xs : List ℕ). front ++ (zone_rows zs ++ xs)) written)

-- there are as many zones as the shape says
pub size_read : (s : Shape) (zs : List CountedZone) (zones : List ZoneWithBlocks) → length zs ≡ s.zones → map (counted s.capacity) zones ≡ zs → s.zones ≡ length zones
size_read s zs zones count same = sym (sym (length-map zones (counted s.capacity)) ∙ (ap length same ∙ count))

-- the text of the namespace that is read
text_with : (version : Version) (s : Shape) (zs : List CountedZone) (zones : List ZoneWithBlocks) → s.zones ≡ length zones → map (counted s.capacity) zones ≡ zs
    → header version s (written_blocks zs) ++ (zone_rows zs ++ blocks_text zones) ≡ text_of version (namespace_with s zones)
text_with version s zs zones size same =
    let all = map (counted s.capacity) zones in
    ap (λ (read : List CountedZone). header version s (written_blocks read) ++ (zone_rows read ++ blocks_text zones)) (sym same)
    ∙ ap (λ (n : ℕ). header version (resized s n) (written_blocks all) ++ (zone_rows all ++ blocks_text zones)) size

-- a text that loads, taken apart: its header, its zone rows and its blocks, with what stands behind each of them
pub record TextParts (bytes : List ℕ) (ns : ZonedNamespace) : Type 0 where
  pub told : Header
  pub rest : List ℕ
  pub headed : IsHeaded bytes told rest
  pub zones : List CountedZone
  pub later : List ℕ
  pub rows : AreZoneRows told.geometry rest zones later
  pub counted : (done : Unit {0}) × (total_kept told.total zones ≡ Ok done)
  pub limited : (done : Unit {0}) × (limits_kept told.geometry.limits zones ≡ Ok done)
  pub later_fit : AreBytes later
  pub blocks : List ZoneWithBlocks
  pub last : List ℕ
  pub blocks_read : blocks_in told.geometry.block zones later ≡ Ok (blocks, last)
  pub written : AreWritten told.geometry.capacity zones later (blocks, last)
  pub ended : last ≡ []
  pub is : namespace_with told.geometry blocks ≡ ns

pub text_parts : (bytes : List ℕ) (ns : ZonedNamespace) → AreBytes bytes → namespace_in bytes ≡ Ok ns → TextParts bytes ns
unfolding namespace_in
text_parts bytes ns fit e =
    let a = bind_ok (header_in bytes) (λ h. after_header h.0 h.1) ns e in
    let h = a.0.0 in
    let s = h.geometry in
    let b = bind_ok (zone_rows_in s a.0.1) (λ rows. after_rows h rows.0 rows.1) ns a.2 in
    let t = bind_ok (total_kept h.total b.0.0) (λ same. after_total s b.0.0 b.0.1) ns b.2 in
    let c = bind_ok (limits_kept s.limits b.0.0) (λ kept. after_limits s b.0.0 b.0.1) ns t.2 in
    let d = bind_ok (blocks_in s.block b.0.0 b.0.1) (λ blocks. after_blocks s blocks.0 blocks.1) ns c.2 in
    let f = bind_ok (end_in d.0.1) (λ end. Ok (namespace_with s d.0.0)) ns d.2 in
    let headed = header_only bytes h a.0.1 fit a.1 in
    let rest_bytes = rest_fit (header headed.version s headed.total) a.0.1 (subst AreBytes (sym headed.spelled) fit) in
    let rows = rows_only s a.0.1 b.0 headed.known rest_bytes b.1 in
    record {
      told = h;
      rest = a.0.1;
      headed = headed;
      zones = b.0.0;
      later = b.0.1;
      rows = rows;
      counted = (t.0, t.1);
      limited = (c.0, c.1);
      later_fit = rest_fit (zone_rows b.0.0) b.0.1 (subst AreBytes (sym rows.spelled) rest_bytes);
      blocks = d.0.0;
      last = d.0.1;
      blocks_read = d.1;
      written = blocks_only s.block s.capacity b.0.0 b.0.1 d.0 (λ k less. (rows.fit.each k less).0) d.1;
      ended = nil_from_length d.0.1 (eqb-true (length d.0.1) 0 (chosen (length d.0.1 == 0) tt f.0 fault.Trailing f.1).0);
      is = ok_is (namespace_with s d.0.0) ns f.2;
    }

pub only_texts_load : OnlyTextsLoad
only_texts_load bytes ns fit e =
    let p = text_parts bytes ns fit e in
    let s = p.told.geometry in
    let version = p.headed.version in
    let total = p.headed.total in
    let counts = header_counted version s total p.zones p.counted.0 (ap (λ (n : Option ℕ). total_kept n p.zones) (sym p.headed.same) ∙ p.counted.1) in
    let size = size_read s p.zones p.blocks p.rows.fit.count p.written.counted in (
      version,
      subst (λ (x : ZonedNamespace). HasText version (shape x)) p.is (subst (λ (n : ℕ). HasText version (resized s n)) size p.headed.has),
      joined (header version s total) p.zones p.blocks bytes p.rest p.later p.last p.headed.spelled p.rows.spelled p.written.spelled p.ended
          ∙ (ap (λ (xs : List ℕ). xs ++ (zone_rows p.zones ++ blocks_text p.blocks)) counts
          ∙ (text_with version s p.zones p.blocks size p.written.counted ∙ ap (text_of version) p.is)),
    )
