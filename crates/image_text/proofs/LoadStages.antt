-- One stage of a load after another.
use Rattle.std.proofs.Common.{◌≡◌, ℕ, ◌*◌, ◌^◌, ◌<◌, ◌≤◌, List, length, get_or, replicate, Result, Ok, Err, refl, ap, sym, subst, ◌∙◌, arith}
use Rattle.std.specs.Prelude.{IfOk, IsOk}
use Rattle.std.proofs.lemmas.List.{length-replicate}
use Rattle.zone_state.specs.Zone.{CountedZone, IsZone}
use Rattle.image_text.specs.declared.fault.LoadFault.{LoadFault}
use Rattle.image_text.specs.declared.header.Header.{Header}
use Rattle.image_text.specs.FirstFault.{TellsZone}
use Rattle.image_store.specs.ImageInMemory.{no_counted_zone}
use Rattle.image_store.specs.Geometry.{Shape, IsShape}
use Rattle.image_text.specs.Loading.{LoadFails, LoadGives}
use Rattle.image_text.specs.steps.LoadStages.{AreZones, HasZones, NoStreamFails, after_blocks, after_limits}
use Rattle.image_store.specs.Namespace.{ZoneWithBlocks, ZonedNamespace, namespace_with}
use Rattle.common_definitions.specs.Readings.{◌>>=◌}
use Rattle.image_text.specs.Reading.{bytes_in, header_told, header_in, zones_in, zone_rows_in, total_kept, limits_kept, blocks_in, end_in, namespace_in}
use Rattle.image_text.proofs.ReadingCalls.{fails_then}
use Rattle.image_text.proofs.Faults.{no_stream, fails_text, header_text_fault, limits_text_fault, total_text_fault}
use Rattle.image_text.proofs.FilledBuffers.{Split}
use Rattle.image_text.proofs.ToldRows.{are_told, part}

told : (result : Result Header LoadFault) (front rest : List ℕ) → result ≡ header_told front → LoadGives {Y = Header × List ℕ} ⊥ (λ (h : Header). (h, rest)) result (header_told front >>= λ h. Ok (h, rest))
told (Ok h) front rest e = ap (λ (r : Result Header LoadFault). r >>= λ x. let all : Result (Header × List ℕ) LoadFault = Ok (x, rest) in all) (sym e)
told (Err first) front rest e =
    fails_then ⊥ ⊥ first (header_told front) (λ (h : Header). let all : Result (Header × List ℕ) LoadFault = Ok (h, rest) in all) (λ no. no)
    (fails_text ⊥ first (header_told front) (header_text_fault front first (sym e)) (sym e))

-- the header, of 64 bytes that were read
pub header_given : (result : Result Header LoadFault) (front rest all : List ℕ) → bytes_in 64 all ≡ Ok (front, rest) → result ≡ header_told front → LoadGives {Y = Header × List ℕ} ⊥ (λ (h : Header). (h, rest)) result (header_in all)
header_given result front rest all read given =
    let step : header_in all ≡ (header_told front >>= λ h. Ok (h, rest)) = ap (λ (r : Result Split LoadFault). r >>= λ part. header_told part.0 >>= λ h. Ok (h, part.1)) read in
    subst (λ (r : Result (Header × List ℕ) LoadFault). LoadGives {Y = Header × List ℕ} ⊥ (λ (h : Header). (h, rest)) result r) (sym step) (told result front rest given)

pub header_no_stream : (result : Result Header LoadFault) (front : List ℕ) → result ≡ header_told front → NoStreamFails result
header_no_stream (Ok h) front e = tt
header_no_stream (Err first) front e = no_stream first (header_text_fault front first (sym e))

row_fits : (capacity : ℕ) (row : List ℕ) (z : CountedZone) → 1 ≤ capacity → TellsZone capacity row z → (z.capacity ≡ capacity) × IsZone z.state z.written capacity
row_fits capacity row z some tells = (sym tells.same_capacity, subst (IsZone z.state z.written) (sym tells.same_capacity) (subst (λ (c : ℕ). 1 ≤ c) tells.same_capacity some, tells.fits))

-- the zones of rows: as many as were wanted, each of the capacity, with blocks that fit its state
pub record HaveFit (capacity n : ℕ) (zs : List CountedZone) : Type 0 where
  pub count : length zs ≡ n
  pub each : (k : ℕ) → k < length zs → ((get_or zs k no_counted_zone).capacity ≡ capacity) × IsZone (get_or zs k no_counted_zone).state (get_or zs k no_counted_zone).written capacity

pub zones_fit : (zone capacity n : ℕ) (bytes : List ℕ) (zs : List CountedZone) → 1 ≤ capacity → zones_in zone capacity n bytes ≡ Ok zs → HaveFit capacity n zs
zones_fit zone capacity n bytes zs some e =
    let told = are_told zone capacity n bytes zs e in
    record { count = told.count; each = λ k h. row_fits capacity (part bytes k) (get_or zs k no_counted_zone) some (told.each k h) }

pub rows_fit : {X : Type 0} (view : X → List CountedZone) (s : Shape) (result : Result X LoadFault) (bytes : List ℕ) → IsShape s
    → LoadGives (Unit {0}) view result (zones_in 0 s.capacity s.zones bytes) → IfOk result (λ x. AreZones s (view x))
rows_fit view s (Ok x) bytes known e =
    let fit = zones_fit 0 s.capacity s.zones bytes (view x) known.capacity_some e in
    λ room size. record {
      shape = known;
      count = fit.count;
      room = size;
      capacities = λ k h. (fit.each k h).0;
      fits = λ k h. (fit.each k h).1;
    }
rows_fit view s (Err first) bytes known e = tt

-- zones that fit their shape are few
pub zones_few : (s : Shape) (zs : List CountedZone) → AreZones s zs → length zs < 2 ^ 32
zones_few s zs fit =
    let room = s.zones * (s.capacity * s.block) in
    let flat = fit (replicate room 0) (length-replicate {A = ℕ} room 0) in
    omega (arith, flat.count, flat.shape.zones_most)

-- what is still to be read, after each part
abbrev pub after_total : Shape → List CountedZone → List ℕ → Result ZonedNamespace LoadFault
after_total s zs bytes = limits_kept s.limits zs >>= λ kept. after_limits s zs bytes

abbrev pub after_rows : Header → List CountedZone → List ℕ → Result ZonedNamespace LoadFault
after_rows h zs bytes = total_kept h.total zs >>= λ same. after_total h.geometry zs bytes

abbrev pub after_header : Header → List ℕ → Result ZonedNamespace LoadFault
after_header h bytes = zone_rows_in h.geometry bytes >>= λ rows. after_rows h rows.0 rows.1

pub past_header : (all rest : List ℕ) (h : Header) → header_in all ≡ Ok (h, rest) → namespace_in all ≡ after_header h rest
unfolding namespace_in
past_header all rest h e = ap (λ (r : Result (Header × List ℕ) LoadFault). r >>= λ x. after_header x.0 x.1) e

pub past_rows : (h : Header) (bytes rest : List ℕ) (zs : List CountedZone) → zone_rows_in h.geometry bytes ≡ Ok (zs, rest) → after_header h bytes ≡ after_rows h zs rest
past_rows h bytes rest zs e = ap (λ (r : Result (List CountedZone × List ℕ) LoadFault). r >>= λ rows. after_rows h rows.0 rows.1) e

pub past_total : (h : Header) (zs : List CountedZone) (bytes : List ℕ) → total_kept h.total zs ≡ Ok tt → after_rows h zs bytes ≡ after_total h.geometry zs bytes
past_total h zs bytes e = ap (λ (r : Result (Unit {0}) LoadFault). r >>= λ same. after_total h.geometry zs bytes) e

pub past_limits : (s : Shape) (zs : List CountedZone) (bytes : List ℕ) → limits_kept s.limits zs ≡ Ok tt → after_total s zs bytes ≡ after_limits s zs bytes
past_limits s zs bytes e = ap (λ (r : Result Unit LoadFault). r >>= λ kept. after_limits s zs bytes) e

pub past_blocks : (s : Shape) (zs : List CountedZone) (bytes rest : List ℕ) (zones : List ZoneWithBlocks) → blocks_in s.block zs bytes ≡ Ok (zones, rest) → after_limits s zs bytes ≡ after_blocks s zones rest
past_blocks s zs bytes rest zones e = ap (λ (r : Result (List ZoneWithBlocks × List ℕ) LoadFault). r >>= λ blocks. after_blocks s blocks.0 blocks.1) e

pub past_end : (s : Shape) (zones : List ZoneWithBlocks) (bytes : List ℕ) → end_in bytes ≡ Ok tt → after_blocks s zones bytes ≡ Ok (namespace_with s zones)
past_end s zones bytes e = ap (λ (r : Result Unit LoadFault). r >>= λ end. let all : Result ZonedNamespace LoadFault = Ok (namespace_with s zones) in all) e

header_accepted : (all rest : List ℕ) (h : Header) → header_in all ≡ Ok (h, rest) → IsOk (header_in all)
header_accepted all rest h e = subst (λ (r : Result (Header × List ℕ) LoadFault). IsOk r) (sym e) refl

-- a part that fails, by what was still to be read
pub fails_at : {X : Type 0} (wanted may : Type 0) (first : LoadFault) (part : Result X LoadFault) (next : X → Result ZonedNamespace LoadFault) (all : Result ZonedNamespace LoadFault)
    → all ≡ (part >>= next) → (wanted → may) → LoadFails wanted first part → LoadFails may first all
fails_at wanted may first part next all so_far up h =
    subst (λ (r : Result ZonedNamespace LoadFault). LoadFails may first r) (sym so_far) (fails_then wanted may first part next up h)

-- to load a text fails with this fault, and may want memory only where its header is accepted
abbrev pub FailsToLoad : List ℕ → LoadFault → Type 0
FailsToLoad all first = LoadFails (IsOk (header_in all)) first (namespace_in all)

pub header_fails : (first : LoadFault) (all : List ℕ) → LoadFails ⊥ first (header_in all) → FailsToLoad all first
unfolding namespace_in
header_fails first all h = fails_then ⊥ (IsOk (header_in all)) first (header_in all) (λ x. after_header x.0 x.1) (λ no. absurd no) h

-- a text begins with this header and these rows of zones, and goes on with these bytes
pub record HasRows (all : List ℕ) (h : Header) (zs : List CountedZone) (later : List ℕ) : Type 0 where
  pub accepted : IsOk (header_in all)
  pub so_far : namespace_in all ≡ after_rows h zs later

pub has_rows : {all bytes later : List ℕ} {h : Header} {zs : List CountedZone}
    → header_in all ≡ Ok (h, bytes) → zone_rows_in h.geometry bytes ≡ Ok (zs, later) → HasRows all h zs later
has_rows {all} {bytes} {later} {h} {zs} header rows = record {
  accepted = header_accepted all bytes h header;
  so_far = past_header all bytes h header ∙ past_rows h bytes later zs rows;
}

-- the zones of the rows pass the tests
pub has_zones : {all later : List ℕ} {h : Header} {zs : List CountedZone}
    → HasRows all h zs later → Ok tt ≡ total_kept h.total zs → Ok tt ≡ limits_kept h.geometry.limits zs → HasZones all h.geometry zs later
has_zones {all} {later} {h} {zs} rows same kept = record {
  accepted = rows.accepted;
  so_far = rows.so_far ∙ (past_total h zs later (sym same) ∙ past_limits h.geometry zs later (sym kept));
}

-- the zones have these blocks
pub record HasBlocks (all : List ℕ) (s : Shape) (zones : List ZoneWithBlocks) (last : List ℕ) : Type 0 where
  pub so_far : namespace_in all ≡ after_blocks s zones last

pub has_blocks : {all later last : List ℕ} {s : Shape} {zs : List CountedZone} {zones : List ZoneWithBlocks}
    → HasZones all s zs later → blocks_in s.block zs later ≡ Ok (zones, last) → HasBlocks all s zones last
has_blocks {all} {later} {last} {s} {zs} {zones} tested blocks = record {
  so_far = tested.so_far ∙ past_blocks s zs later last zones blocks;
}

-- and nothing follows
pub has_all : {all last : List ℕ} {s : Shape} {zones : List ZoneWithBlocks}
    → HasBlocks all s zones last → end_in last ≡ Ok tt → namespace_in all ≡ Ok (namespace_with s zones)
has_all {all} {last} {s} {zones} blocks none = blocks.so_far ∙ past_end s zones last none

-- the part that fails is the rows,
pub rows_fail : {bytes : List ℕ} {h : Header} (all : List ℕ) (first : LoadFault)
    → header_in all ≡ Ok (h, bytes) → LoadFails (Unit {0}) first (zone_rows_in h.geometry bytes) → FailsToLoad all first
rows_fail {bytes} {h} all first header fails =
    fails_at (Unit {0}) _ first (zone_rows_in h.geometry bytes) (λ rows. after_rows h rows.0 rows.1) (namespace_in all)
    (past_header all bytes h header) (λ _. header_accepted all bytes h header) fails

-- the number of written blocks,
pub total_fails : {later : List ℕ} {h : Header} {zs : List CountedZone} (all : List ℕ) (first : LoadFault)
    → HasRows all h zs later → Err first ≡ total_kept h.total zs → FailsToLoad all first
total_fails {later} {h} {zs} all first rows over =
    fails_at ⊥ _ first (total_kept h.total zs) (λ same. after_total h.geometry zs later) (namespace_in all) rows.so_far
    (λ no. absurd no) (fails_text ⊥ first (total_kept h.total zs) (total_text_fault h.total zs first (sym over)) (sym over))

-- the limits,
pub limits_fail : {later : List ℕ} {h : Header} {zs : List CountedZone} (all : List ℕ) (first : LoadFault) → HasRows all h zs later
    → Ok tt ≡ total_kept h.total zs → Err first ≡ limits_kept h.geometry.limits zs → FailsToLoad all first
limits_fail {later} {h} {zs} all first rows same over =
    let limits = h.geometry.limits in
    fails_at ⊥ _ first (limits_kept limits zs) (λ kept. after_limits h.geometry zs later) (namespace_in all)
    (rows.so_far ∙ past_total h zs later (sym same))
    (λ no. absurd no) (fails_text ⊥ first (limits_kept limits zs) (limits_text_fault limits zs first (sym over)) (sym over))

-- the blocks,
pub blocks_fail : {later : List ℕ} {s : Shape} {zs : List CountedZone} (all : List ℕ) (first : LoadFault)
    → HasZones all s zs later → LoadFails (Unit {0}) first (blocks_in s.block zs later) → FailsToLoad all first
blocks_fail {later} {s} {zs} all first tested fails =
    fails_at (Unit {0}) _ first (blocks_in s.block zs later) (λ blocks. after_blocks s blocks.0 blocks.1) (namespace_in all)
    tested.so_far (λ _. tested.accepted) fails

-- or the end
pub end_fails : {last : List ℕ} {s : Shape} {zones : List ZoneWithBlocks} (all : List ℕ) (first : LoadFault)
    → HasBlocks all s zones last → LoadFails ⊥ first (end_in last) → FailsToLoad all first
end_fails {last} {s} {zones} all first blocks fails =
    fails_at ⊥ _ first (end_in last) (λ end. Ok (namespace_with s zones)) (namespace_in all) blocks.so_far (λ no. absurd no) fails
