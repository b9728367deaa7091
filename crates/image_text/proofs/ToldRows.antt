-- What rows tell: zones, or what is wrong with one.
use Rattle.std.proofs.Common.{◌≡◌, ℕ, ◌+◌, ◌*◌, ◌<◌, zero, suc, Bool, true, false, cond, List, [], ◌∷◌, length, take, drop, get_or, Option, Some, None, Ok, Err, refl, ap, sym, subst, arith}
use Rattle.zone_state.specs.declared.state.ZoneState.{ZoneState}
use Rattle.zone_state.specs.State.{state_of}
use Rattle.zone_state.specs.Zone.{CountedZone, fits_state}
use Rattle.common_definitions.specs.Bytes.{field}
use Rattle.image_text.specs.declared.fault.LoadFault.{LoadFault}
use Rattle.image_text.specs.declared.fault.LoadFault.TheVariants.{ZoneRow}
use Rattle.image_text.specs.declared.fault.ZoneRowFault.{ZoneRowFault}
use Rattle.image_text.specs.declared.fault.ZoneRowFault.TheVariants.{Reserved, State, Blocks}
use Rattle.common_definitions.specs.Readings.{◌>>=◌}
use Rattle.image_text.specs.FirstFault.{IsRowFault, TellsZone}
use Rattle.image_store.specs.ImageInMemory.{no_counted_zone}
use Rattle.image_text.specs.Reading.{are_zeros, zone_told, zone_in, zones_in}
use Rattle.image_store.proofs.Proved.{drop-next}
use Rattle.image_text.proofs.ReadingCalls.{bind_ok, chosen, is_this, ok_is, wrong}

-- ---- a row

-- what is wrong with the row of a zone
pub record IsBadRow (zone capacity : ℕ) (row : List ℕ) (fault : LoadFault) : Type 0 where
  pub why : ZoneRowFault
  pub is : fault ≡ ZoneRow zone why
  pub wrong : IsRowFault capacity row why

state_wrong : (zone capacity : ℕ) (row : List ℕ) (told : Option ZoneState) (fault : LoadFault) → are_zeros (take 3 (drop 1 row)) ≡ true → state_of (get_or row 0 0) ≡ told
    → zone_told zone (get_or row 0 0) told (field row 4 4) capacity ≡ Err fault → IsBadRow zone capacity row fault
state_wrong zone capacity row None fault zeros is e =
    let code = get_or row 0 0 in
    record { why = State code; is = sym (is_this {X = CountedZone} (ZoneRow zone (State code)) fault e); wrong = (zeros, refl, is) }
state_wrong zone capacity row (Some state) fault zeros is e =
    let written = field row 4 4 in
    let made : CountedZone = record { state = state; written = written; capacity = capacity } in
    let p = wrong (fits_state state written capacity) made (ZoneRow zone (Blocks state written capacity)) fault e in
    record { why = Blocks state written capacity; is = sym p.1; wrong = (zeros, is, refl, refl, p.0) }

row_wrong_if : (zone capacity : ℕ) (row : List ℕ) (test : Bool) (fault : LoadFault) → are_zeros (take 3 (drop 1 row)) ≡ test
    → cond test (zone_told zone (get_or row 0 0) (state_of (get_or row 0 0)) (field row 4 4) capacity) (Err (ZoneRow zone Reserved)) ≡ Err fault → IsBadRow zone capacity row fault
row_wrong_if zone capacity row true fault zeros e = state_wrong zone capacity row (state_of (get_or row 0 0)) fault zeros refl e
row_wrong_if zone capacity row false fault zeros e = record { why = Reserved; is = sym (is_this {X = CountedZone} (ZoneRow zone Reserved) fault e); wrong = zeros }

pub row_wrong : (zone capacity : ℕ) (row : List ℕ) (fault : LoadFault) → zone_in zone capacity row ≡ Err fault → IsBadRow zone capacity row fault
row_wrong zone capacity row fault e = row_wrong_if zone capacity row (are_zeros (take 3 (drop 1 row))) fault refl e

state_right : (zone capacity : ℕ) (row : List ℕ) (told : Option ZoneState) (z : CountedZone) → are_zeros (take 3 (drop 1 row)) ≡ true → state_of (get_or row 0 0) ≡ told
    → zone_told zone (get_or row 0 0) told (field row 4 4) capacity ≡ Ok z → TellsZone capacity row z
state_right zone capacity row None z zeros is e = absurd cc
state_right zone capacity row (Some state) z zeros is e =
    let written = field row 4 4 in
    let made : CountedZone = record { state = state; written = written; capacity = capacity } in
    let p = chosen (fits_state state written capacity) made z (ZoneRow zone (Blocks state written capacity)) e in
    subst (TellsZone capacity row) p.1 (record { zeros = zeros; state = is; written = refl; same_capacity = refl; fits = p.0 })

row_right_if : (zone capacity : ℕ) (row : List ℕ) (test : Bool) (z : CountedZone) → are_zeros (take 3 (drop 1 row)) ≡ test
    → cond test (zone_told zone (get_or row 0 0) (state_of (get_or row 0 0)) (field row 4 4) capacity) (Err (ZoneRow zone Reserved)) ≡ Ok z → TellsZone capacity row z
row_right_if zone capacity row true z zeros e = state_right zone capacity row (state_of (get_or row 0 0)) z zeros refl e
row_right_if zone capacity row false z zeros e = absurd cc

pub row_right : (zone capacity : ℕ) (row : List ℕ) (z : CountedZone) → zone_in zone capacity row ≡ Ok z → TellsZone capacity row z
row_right zone capacity row z e = row_right_if zone capacity row (are_zeros (take 3 (drop 1 row))) z refl e

-- ---- the rows

abbrev pub part : List ℕ → ℕ → List ℕ
part rows k = take 8 (drop (k * 8) rows)

pub next_part : (rows : List ℕ) (k : ℕ) → part (drop 8 rows) k ≡ part rows (suc k)
next_part rows k = ap (take 8) (drop-next 8 k rows)

-- each of the first rows tells its zone
abbrev pub Tell : ℕ → List ℕ → List CountedZone → Type 0
Tell capacity rows zs = (k : ℕ) → k < length zs → TellsZone capacity (part rows k) (get_or zs k no_counted_zone)

pub tell_more : (capacity : ℕ) (rows : List ℕ) (z : CountedZone) (zs : List CountedZone) → TellsZone capacity (take 8 rows) z → Tell capacity (drop 8 rows) zs → Tell capacity rows (z ∷ zs)
tell_more capacity rows z zs first later zero h = first
tell_more capacity rows z zs first later (suc k) h =
    subst (λ (row : List ℕ). TellsZone capacity row (get_or zs k no_counted_zone)) (next_part rows k) (later k (omega arith))

-- the zone of the first row, and those of the rows behind it
pub record ReadsRow (zone capacity n : ℕ) (rows : List ℕ) (zs : List CountedZone) : Type 0 where
  pub first : CountedZone
  pub told : zone_in zone capacity (take 8 rows) ≡ Ok first
  pub later : List CountedZone
  pub more : zones_in (zone + 1) capacity n (drop 8 rows) ≡ Ok later
  pub are : first ∷ later ≡ zs

pub row_read : (zone capacity n : ℕ) (rows : List ℕ) (zs : List CountedZone) → zones_in zone capacity (suc n) rows ≡ Ok zs → ReadsRow zone capacity n rows zs
row_read zone capacity n rows zs e =
    let a = bind_ok (zone_in zone capacity (take 8 rows)) (λ z. zones_in (zone + 1) capacity n (drop 8 rows) >>= λ more. Ok (z ∷ more)) zs e in
    let b = bind_ok (zones_in (zone + 1) capacity n (drop 8 rows)) (λ more. Ok (a.0 ∷ more)) zs a.2 in
    record { first = a.0; told = a.1; later = b.0; more = b.1; are = ok_is (a.0 ∷ b.0) zs b.2 }

pub record AreTold (capacity n : ℕ) (rows : List ℕ) (zs : List CountedZone) : Type 0 where
  pub count : length zs ≡ n
  pub each : Tell capacity rows zs

pub are_told : (zone capacity n : ℕ) (rows : List ℕ) (zs : List CountedZone) → zones_in zone capacity n rows ≡ Ok zs → AreTold capacity n rows zs
are_told zone capacity zero rows zs e = subst (AreTold capacity 0 rows) (ok_is [] zs e) (record { count = refl; each = λ k h. absurd (omega arith) })
are_told zone capacity (suc n) rows zs e =
    let r = row_read zone capacity n rows zs e in
    let more = are_told (zone + 1) capacity n (drop 8 rows) r.later r.more in
    subst (AreTold capacity (suc n) rows) r.are
    (record { count = ap suc more.count; each = tell_more capacity rows r.first r.later (row_right zone capacity (take 8 rows) r.first r.told) more.each })
