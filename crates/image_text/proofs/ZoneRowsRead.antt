-- Reading rows one after the other, as a loop does.
use Rattle.std.proofs.Common.{◌≡◌, ℕ, suc, ◌-◌, ◌+◌, ◌<◌, List, [], ◌∷◌, ◌++◌, take, drop, Result, Ok, Err, sym, ap, ◌∙◌, arith}
use Rattle.zone_state.specs.Zone.{CountedZone}
use Rattle.image_text.specs.declared.fault.LoadFault.{LoadFault}
use Rattle.image_text.specs.declared.fault.LoadFault.TheVariants.{Stream, Memory}
use Rattle.image_text.specs.Loading.{LoadFails}
use Rattle.common_definitions.specs.Readings.{◌>>=◌, with_front}
use Rattle.common_definitions.proofs.Proved.{with_front-more}
use Rattle.image_text.specs.Reading.{zone_in, zones_in}

-- what the rows from one on tell, by what that row tells
next_row : (front : List CountedZone) (capacity count i : ℕ) (bytes : List ℕ) (row : Result CountedZone LoadFault) → i < count → zone_in i capacity (take 8 bytes) ≡ row
    → with_front front (zones_in i capacity (count - i) bytes) ≡ with_front front (row >>= λ first. zones_in (i + 1) capacity (count - (i + 1)) (drop 8 bytes) >>= λ zs. Ok (first ∷ zs))
next_row front capacity count i bytes row lt h =
    let k : count - i ≡ suc (count - (i + 1)) = omega arith in
    ap (λ (n : ℕ). with_front front (zones_in i capacity n bytes)) k
    ∙ ap (λ r. with_front front (r >>= λ first. zones_in (i + 1) capacity (count - (i + 1)) (drop 8 bytes) >>= λ zs. Ok (first ∷ zs))) h

pub goes_on : (front : List CountedZone) (capacity count i : ℕ) (bytes : List ℕ) (z : CountedZone) (total : Result (List CountedZone) LoadFault) → i < count → zone_in i capacity (take 8 bytes) ≡ Ok z
    → with_front front (zones_in i capacity (count - i) bytes) ≡ total → with_front (front ++ z ∷ []) (zones_in (i + 1) capacity (count - (i + 1)) (drop 8 bytes)) ≡ total
goes_on front capacity count i bytes z total lt h so_far =
    sym (with_front-more front (z ∷ []) (zones_in (i + 1) capacity (count - (i + 1)) (drop 8 bytes)))
    ∙ (sym (next_row front capacity count i bytes (Ok z) lt h) ∙ so_far)

pub stops : (front : List CountedZone) (capacity count i : ℕ) (bytes : List ℕ) (fault : LoadFault) (total : Result (List CountedZone) LoadFault) → i < count → zone_in i capacity (take 8 bytes) ≡ Err fault
    → with_front front (zones_in i capacity (count - i) bytes) ≡ total → total ≡ Err fault
stops front capacity count i bytes fault total lt h so_far = sym so_far ∙ next_row front capacity count i bytes (Err fault) lt h

-- a fault that reading gives is one of a call that may want memory
pub fails_free : {Y : Type 0} (fault : LoadFault) (reading : Result Y LoadFault) → reading ≡ Err fault → LoadFails (Unit {0}) fault reading
fails_free Stream reading h = tt
fails_free Memory reading h = tt
fails_free fault reading h = h
