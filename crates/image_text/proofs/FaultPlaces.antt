-- A fault is found by the bytes of the text up to where it stands.
use Rattle.std.proofs.Common.{◌≡◌, ◌≢◌, ℕ, ◌+◌, ◌*◌, ◌<◌, ◌≤◌, ◌==◌, Bool, cond, List, [], ◌∷◌, length, take, drop, Option, Some, None, Result, Ok, Err, refl, ap, sym, subst, ◌∙◌, arith, inl, inr, le_refl}
use Rattle.std.specs.Cmp.Lexicographic.{pointwise}
use Rattle.std.specs.List.{find}
use Rattle.std.specs.Option.{ok_or}
use Rattle.std.specs.Prelude.{◌&&◌, nat_le}
use Rattle.std.proofs.lemmas.Bool.{leb-false, leb-true, le-leb}
use Rattle.std.proofs.lemmas.Bool.Decides.{leb_tells}
use Rattle.std.proofs.lemmas.List.{length-drop, take-take}
use Rattle.std.proofs.lemmas.List.Sums.{sum_by-cons}
use Rattle.std.proofs.Math.Nat.{add-mul}
use Rattle.common_definitions.proofs.Proved.{agree_before, agree_behind}
use Rattle.zone_state.specs.Zone.{CountedZone}
use Rattle.zone_resources.specs.declared.admission.Limits.{Limits as ResourceLimits}
use Rattle.zone_resources.specs.Counts.{open_count, active_count}
use Rattle.image_text.specs.declared.fault.LoadFault.{LoadFault}
use Rattle.image_text.specs.declared.fault.LoadFault.TheVariants.{Truncated, Magic, Total, Limits, Trailing}
use Rattle.image_text.specs.declared.header.Header.{Header}
use Rattle.image_text.specs.declared.version.Version.{Version}
use Rattle.image_text.specs.declared.version.Version.TheVariants.{One, Two}
use Rattle.image_store.specs.ImageInMemory.{zone_seen}
use Rattle.image_store.specs.Geometry.{Shape}
use Rattle.image_text.specs.Laws.{FaultsAreByPrefix, fault_end}
use Rattle.image_store.specs.Namespace.{ZonedNamespace, namespace_with}
use Rattle.common_definitions.specs.Readings.{◌>>=◌}
use Rattle.image_text.specs.Reading.{bytes_in, rows_end, shape_in, version_in, header_of, header_told, header_in, zones_in, total_kept, limits_kept, blocks_in, end_in, namespace_in}
use Rattle.image_text.specs.Text.{written_blocks}
use Rattle.image_text.specs.Version.{numbers_of_version}
use Rattle.image_text.proofs.BadHeaders.{header_wrong}
use Rattle.image_text.proofs.Faults.{kept_fault}
use Rattle.image_text.proofs.FilledBuffers.{Split, bytes_short}
use Rattle.image_text.proofs.HeaderParts.{header_parts}
use Rattle.image_text.specs.steps.LoadStages.{after_blocks, after_limits}
use Rattle.image_text.proofs.LoadStages.{after_header, after_rows, after_total}
use Rattle.image_text.proofs.ReadingCalls.{bind_fails, chosen, is_this, wrong}
use Rattle.image_text.proofs.RowFaults.{IsFirstBad, first_bad}

-- ---- the end

abbrev IsOfEnd : LoadFault → Type 0
IsOfEnd fault = fault ≢ Truncated → fault ≢ Trailing → ⊥

-- the bytes of the blocks of one zone more
pub blocks_more : (block : ℕ) (z : CountedZone) (zs : List CountedZone) → written_blocks (z ∷ zs) * block ≡ z.written * block + written_blocks zs * block
blocks_more block z zs = ap (λ (count : ℕ). count * block) (sum_by-cons (λ (zone : CountedZone). zone.written) z zs) ∙ add-mul z.written (written_blocks zs) block

-- blocks that aren't all there
pub blocks_short : (block : ℕ) (zs : List CountedZone) (bytes : List ℕ) (fault : LoadFault) → blocks_in block zs bytes ≡ Err fault → (Truncated ≡ fault) × (length bytes < written_blocks zs * block)
blocks_short block [] bytes fault e = absurd cc
blocks_short block (z ∷ zs) bytes fault e =
    let n = z.written * block in
    let sum : written_blocks (z ∷ zs) * block ≡ n + written_blocks zs * block = blocks_more block z zs in
    bind_fails (λ f. (Truncated ≡ f) × (length bytes < written_blocks (z ∷ zs) * block)) (bytes_in n bytes) (λ front. blocks_in block zs front.1 >>= λ rest. Ok (zone_seen block z front.0 ∷ rest.0, rest.1)) fault e
    (λ first short.
    let p = wrong (nat_le n (length bytes)) (take n bytes, drop n bytes) Truncated first short in
    let few = leb-false n (length bytes) p.0 in
    (p.1, omega (arith, sum, few)))
    (λ front there later.
    let p = chosen (nat_le n (length bytes)) (take n bytes, drop n bytes) front Truncated there in
    let whole = leb-true n (length bytes) p.0 in
    let rest : drop n bytes ≡ front.1 = ap (λ (f : Split). f.1) p.1 in
    bind_fails (λ f. (Truncated ≡ f) × (length bytes < written_blocks (z ∷ zs) * block)) (blocks_in block zs front.1) (λ rest. Ok (zone_seen block z front.0 ∷ rest.0, rest.1)) fault later
    (λ first short.
    let q = blocks_short block zs front.1 first short in
    let size : length (drop n bytes) ≡ length front.1 = ap length rest in
    (q.0, omega (arith, sum, whole, q.1, size, length-drop n bytes)))
    (λ all none last. absurd cc))

-- what is behind the rows is refused by its end alone
limits_end : (s : Shape) (zs : List CountedZone) (bytes : List ℕ) (fault : LoadFault) → after_limits s zs bytes ≡ Err fault → IsOfEnd fault
limits_end s zs bytes fault e =
    bind_fails IsOfEnd (blocks_in s.block zs bytes) (λ blocks. after_blocks s blocks.0 blocks.1) fault e
    (λ first short whole alone. whole (sym (blocks_short s.block zs bytes first short).0))
    (λ blocks all later.
    bind_fails IsOfEnd (end_in blocks.1) (λ end. Ok (namespace_with s blocks.0)) fault later
    (λ first more whole alone. alone (sym (wrong (length blocks.1 == 0) tt Trailing first more).1))
    (λ end last none. absurd cc))

-- ---- the header

-- a text with a whole header
whole_header : (bytes : List ℕ) → 64 ≤ length bytes → header_in bytes ≡ (header_told (take 64 bytes) >>= λ h. Ok (h, drop 64 bytes))
whole_header bytes there =
    ap (λ (test : Bool). let r : Result Split LoadFault = cond test (Ok (take 64 bytes, drop 64 bytes)) (Err Truncated) in r >>= λ front. header_told front.0 >>= λ h. Ok (h, front.1))
    (le-leb 64 (length bytes) there)

bind_pair : {X Y : Type 0} (r : Result X LoadFault) (rest : List ℕ) (next : X → List ℕ → Result Y LoadFault)
    → (r >>= (λ x. let all : Result (X × List ℕ) LoadFault = Ok (x, rest) in all) >>= λ got. next got.0 got.1) ≡ (r >>= λ x. next x rest)
bind_pair (Ok x) rest next = refl
bind_pair (Err first) rest next = refl

pub whole_text : (bytes : List ℕ) → 64 ≤ length bytes → namespace_in bytes ≡ (header_told (take 64 bytes) >>= λ h. after_header h (drop 64 bytes))
unfolding namespace_in
whole_text bytes there =
    ap (λ (r : Result (Header × List ℕ) LoadFault). r >>= λ got. after_header got.0 got.1) (whole_header bytes there)
    ∙ bind_pair (header_told (take 64 bytes)) (drop 64 bytes) after_header

header_fault_is_told : (bytes : List ℕ) (fault : LoadFault) → 64 ≤ length bytes → header_told (take 64 bytes) ≡ Err fault → namespace_in bytes ≡ Err fault
header_fault_is_told bytes fault there e = whole_text bytes there ∙ ap (λ (r : Result Header LoadFault). r >>= λ h. after_header h (drop 64 bytes)) e

header_passes : (bytes : List ℕ) (h : Header) → 64 ≤ length bytes → header_told (take 64 bytes) ≡ Ok h → namespace_in bytes ≡ after_header h (drop 64 bytes)
header_passes bytes h there e = whole_text bytes there ∙ ap (λ (r : Result Header LoadFault). r >>= λ h. after_header h (drop 64 bytes)) e

-- the version whose magic these bytes are: the first 8 bytes of a text alone tell its version
abbrev version_of : List ℕ → Option Version
version_of front = find (λ version. pointwise (λ a b. a == b) (numbers_of_version version).magic front) (One ∷ Two ∷ [])

no_version : (told : Option Version) (bytes : List ℕ) → told ≡ None → (ok_or told Magic >>= header_of bytes) ≡ Err Magic
no_version told bytes e = ap (λ (v : Option Version). ok_or v Magic >>= header_of bytes) e

pub unknown : (told : Option Version) (fault : LoadFault) → ok_or told Magic ≡ Err fault → (told ≡ None) × (Magic ≡ fault)
unknown None fault e = (refl, is_this {X = Version} Magic fault e)
unknown (Some version) fault e = absurd cc

-- what a text has to have for a fault of this one to be its own
abbrev IsOf : List ℕ → List ℕ → LoadFault → Type 0
IsOf bytes other fault = fault ≢ Truncated → fault ≢ Trailing → take (fault_end bytes fault) other ≡ take (fault_end bytes fault) bytes → namespace_in other ≡ Err fault

module _ (bytes other : List ℕ) (there : 64 ≤ length bytes) (longer : length bytes ≤ length other) where
  magic_is_of : version_in (take 64 bytes) ≡ None → IsOf bytes other Magic
  magic_is_of none whole alone same =
      let fits : 8 ≤ 64 = omega arith in
      let front : take 8 (take 64 other) ≡ take 8 (take 64 bytes) = take-take 8 64 other fits ∙ same ∙ sym (take-take 8 64 bytes fits) in
      let none_other : version_in (take 64 other) ≡ None = ap version_of front ∙ none in
      header_fault_is_told other Magic (omega arith) (no_version (version_in (take 64 other)) (take 64 other) none_other)

  -- a fault behind the magic is found by the whole header at least
  abbrev IsBehind : LoadFault → Type 0
  IsBehind fault = 64 ≤ fault_end bytes fault

  header_same : (fault : LoadFault) → IsBehind fault → take (fault_end bytes fault) other ≡ take (fault_end bytes fault) bytes → take 64 other ≡ take 64 bytes
  header_same fault behind same = agree_before 64 (fault_end bytes fault) other bytes behind same

  header_is_of : (fault : LoadFault) → header_told (take 64 bytes) ≡ Err fault → IsOf bytes other fault
  header_is_of fault e =
      bind_fails (IsOf bytes other) (ok_or (version_in (take 64 bytes)) Magic) (header_of (take 64 bytes)) fault e
      (λ first none. let known = unknown (version_in (take 64 bytes)) first none in subst (IsOf bytes other) known.1 (magic_is_of known.0))
      (λ version told later whole alone same.
      let behind = subst IsBehind (sym (header_wrong version (take 64 bytes) fault later).is) (le_refl 64) in
      header_fault_is_told other fault (omega arith) (ap header_told (header_same fault behind same) ∙ e))

-- ---- behind the header

pub whole_rows : (h : Header) (rest : List ℕ) → h.geometry.zones * 8 ≤ length rest
    → after_header h rest ≡ (zones_in 0 h.geometry.capacity h.geometry.zones (take (h.geometry.zones * 8) rest) >>= λ zs. after_rows h zs (drop (h.geometry.zones * 8) rest))
whole_rows h rest there =
    let s = h.geometry in
    let n = s.zones * 8 in
    ap (λ (test : Bool). let r : Result Split LoadFault = cond test (Ok (take n rest, drop n rest)) (Err Truncated) in
    r >>= (λ front. zones_in 0 s.capacity s.zones front.0 >>= λ zs. let all : Result (List CountedZone × List ℕ) LoadFault = Ok (zs, front.1) in all) >>= λ rows. after_rows h rows.0 rows.1)
    (le-leb n (length rest) there)
    ∙ bind_pair (zones_in 0 s.capacity s.zones (take n rest)) (drop n rest) (after_rows h)

pub short_rows : (h : Header) (rest : List ℕ) → length rest < h.geometry.zones * 8 → after_header h rest ≡ Err Truncated
short_rows h rest short =
    ap (λ (r : Result Split LoadFault). r >>= (λ front. zones_in 0 h.geometry.capacity h.geometry.zones front.0 >>= λ zs. let all : Result (List CountedZone × List ℕ) LoadFault = Ok (zs, front.1) in all) >>= λ rows. after_rows h rows.0 rows.1)
    (bytes_short (h.geometry.zones * 8) rest short)

-- a total or limits that are wrong are found by all rows
abbrev IsOfRows : List ℕ → LoadFault → Type 0
IsOfRows bytes fault = fault_end bytes fault ≡ rows_end bytes

total_of_rows : (bytes : List ℕ) (total : Option ℕ) (zs : List CountedZone) (fault : LoadFault) → total_kept total zs ≡ Err fault → IsOfRows bytes fault
total_of_rows bytes None zs fault e = absurd cc
total_of_rows bytes (Some total) zs fault e = kept_fault (IsOfRows bytes) (total == written_blocks zs) (Total total (written_blocks zs)) fault refl e

limits_of_rows : (bytes : List ℕ) (limits : ResourceLimits) (zs : List CountedZone) (fault : LoadFault) → limits_kept limits zs ≡ Err fault → IsOfRows bytes fault
limits_of_rows bytes limits zs fault e =
    kept_fault (IsOfRows bytes) (nat_le (open_count zs) limits.open_limit && nat_le (active_count zs) limits.active_limit) (Limits (open_count zs) (active_count zs) limits) fault refl e

module _ (bytes other : List ℕ) (there : 64 ≤ length bytes) (longer : length bytes ≤ length other) (h : Header) (told : header_told (take 64 bytes) ≡ Ok h) where
  told_other : (n : ℕ) → 64 ≤ n → take n other ≡ take n bytes → namespace_in other ≡ after_header h (drop 64 other)
  told_other n behind same = header_passes other h (omega arith) (ap header_told (agree_before 64 n other bytes behind same) ∙ told)

  rest_there : h.geometry.zones * 8 ≤ length (drop 64 bytes) → h.geometry.zones * 8 ≤ length (drop 64 other)
  rest_there inside = omega (arith, length-drop 64 bytes, length-drop 64 other)

  bad_is_of : (fault : LoadFault) → h.geometry.zones * 8 ≤ length (drop 64 bytes)
      → IsFirstBad 0 h.geometry.capacity h.geometry.zones (take (h.geometry.zones * 8) (drop 64 bytes)) fault → IsOf bytes other fault
  bad_is_of fault inside found whole alone same =
      let k = length found.before in
      let n = h.geometry.zones * 8 in
      let m = (k + 1) * 8 in
      let end : fault_end bytes fault ≡ 64 + m = ap (fault_end bytes) found.bad.is ∙ ap (λ (i : ℕ). 64 + (i + 1) * 8) (let e : 0 + k ≡ k = omega arith in e) in
      let front : take (64 + m) other ≡ take (64 + m) bytes = subst (λ (i : ℕ). take i other ≡ take i bytes) end same in
      let rest : take m (drop 64 other) ≡ take m (drop 64 bytes) = agree_behind 64 m (64 + m) other bytes refl front in
      let less : m ≤ n = omega (arith, found.few) in
      let cut : take m (take n (drop 64 other)) ≡ take m (take n (drop 64 bytes)) = take-take m n (drop 64 other) less ∙ rest ∙ sym (take-take m n (drop 64 bytes) less) in
      told_other (64 + m) (omega arith) front
      ∙ whole_rows h (drop 64 other) (rest_there inside)
      ∙ ap (λ (r : Result (List CountedZone) LoadFault). r >>= λ zs. after_rows h zs (drop n (drop 64 other))) (found.same (take n (drop 64 other)) cut)

  rows_is_of : (zs : List CountedZone) (fault : LoadFault) → h.geometry.zones * 8 ≤ length (drop 64 bytes)
      → zones_in 0 h.geometry.capacity h.geometry.zones (take (h.geometry.zones * 8) (drop 64 bytes)) ≡ Ok zs → IsOfRows bytes fault
      → ((rest : List ℕ) → after_rows h zs rest ≡ Err fault) → IsOf bytes other fault
  rows_is_of zs fault inside read end fails whole alone same =
      let n = h.geometry.zones * 8 in
      let zones : (shape_in bytes).zones ≡ h.geometry.zones = ap (λ (s : Shape). s.zones) (header_parts (take 64 bytes) h told).same in
      let front : take (64 + n) other ≡ take (64 + n) bytes = subst (λ (i : ℕ). take i other ≡ take i bytes) (end ∙ ap (λ (i : ℕ). 64 + i * 8) zones) same in
      let rest : take n (drop 64 other) ≡ take n (drop 64 bytes) = agree_behind 64 n (64 + n) other bytes refl front in
      told_other (64 + n) (omega arith) front
      ∙ whole_rows h (drop 64 other) (rest_there inside)
      ∙ ap (λ (r : Result (List CountedZone) LoadFault). r >>= λ zs. after_rows h zs (drop n (drop 64 other))) (ap (zones_in 0 h.geometry.capacity h.geometry.zones) rest ∙ read)
      ∙ fails (drop n (drop 64 other))

  -- behind rows that are read
  after_is_of : (zs : List CountedZone) (fault : LoadFault) → h.geometry.zones * 8 ≤ length (drop 64 bytes)
      → zones_in 0 h.geometry.capacity h.geometry.zones (take (h.geometry.zones * 8) (drop 64 bytes)) ≡ Ok zs
      → after_rows h zs (drop (h.geometry.zones * 8) (drop 64 bytes)) ≡ Err fault → IsOf bytes other fault
  after_is_of zs fault inside read e =
      let s = h.geometry in
      let behind = drop (s.zones * 8) (drop 64 bytes) in
      bind_fails (IsOf bytes other) (total_kept h.total zs) (λ same. after_total s zs behind) fault e
      (λ first wrong. rows_is_of zs first inside read (total_of_rows bytes h.total zs first wrong)
      (λ rest. ap (λ (r : Result (Unit {0}) LoadFault). r >>= λ same. after_total s zs rest) wrong))
      (λ same total later.
      bind_fails (IsOf bytes other) (limits_kept s.limits zs) (λ kept. after_limits s zs behind) fault later
      (λ first wrong. rows_is_of zs first inside read (limits_of_rows bytes s.limits zs first wrong)
      (λ rest. ap (λ (r : Result (Unit {0}) LoadFault). r >>= λ same. after_total s zs rest) total ∙ ap (λ (r : Result Unit LoadFault). r >>= λ kept. after_limits s zs rest) wrong))
      (λ kept limits last whole alone same. absurd (limits_end s zs behind fault last whole alone)))

  rest_is_of : (fault : LoadFault) → after_header h (drop 64 bytes) ≡ Err fault → IsOf bytes other fault
  rest_is_of fault e =
      let s = h.geometry in
      let n = s.zones * 8 in
      elim (leb_tells n (length (drop 64 bytes))) [
        | inl inside ↦
            bind_fails (IsOf bytes other) (zones_in 0 s.capacity s.zones (take n (drop 64 bytes))) (λ zs. after_rows h zs (drop n (drop 64 bytes))) fault
            (sym (whole_rows h (drop 64 bytes) inside.1) ∙ e)
            (λ first bad. bad_is_of first inside.1 (first_bad 0 s.capacity s.zones (take n (drop 64 bytes)) first bad))
            (λ zs read later. after_is_of zs fault inside.1 read later)
        | inr short ↦ λ whole alone same. absurd (whole (sym (is_this {X = ZonedNamespace} Truncated fault (sym (short_rows h (drop 64 bytes) short.1) ∙ e))))
      ]

pub short_text : (bytes : List ℕ) → length bytes < 64 → namespace_in bytes ≡ Err Truncated
unfolding namespace_in
short_text bytes short =
    ap (λ (r : Result Split LoadFault). r >>= (λ front. header_told front.0 >>= λ h. let all : Result (Header × List ℕ) LoadFault = Ok (h, front.1) in all) >>= λ got. after_header got.0 got.1)
    (bytes_short 64 bytes short)

pub faults_are_by_prefix : FaultsAreByPrefix
faults_are_by_prefix bytes other fault e whole alone longer same =
    elim (leb_tells 64 (length bytes)) [
      | inl there ↦
          bind_fails (IsOf bytes other) (header_told (take 64 bytes)) (λ h. after_header h (drop 64 bytes)) fault (sym (whole_text bytes there.1) ∙ e)
          (header_is_of bytes other there.1 longer)
          (λ h told later. rest_is_of bytes other there.1 longer h told fault later)
          whole alone same
      | inr short ↦ absurd (whole (sym (is_this {X = ZonedNamespace} Truncated fault (sym (short_text bytes short.1) ∙ e))))
    ]
