-- The row that is refused is the first that tells no zone.
use Rattle.std.proofs.Common.{◌≡◌, ℕ, ◌+◌, ◌-◌, ◌*◌, ◌<◌, zero, suc, List, [], ◌∷◌, length, take, drop, Result, Ok, Err, ap, subst, ◌∙◌, arith}
use Rattle.std.proofs.lemmas.List.{drop-drop, drop-take, take-take}
use Rattle.common_definitions.proofs.Proved.{agree_before, agree_behind}
use Rattle.zone_state.specs.Zone.{CountedZone}
use Rattle.image_text.specs.declared.fault.LoadFault.{LoadFault}
use Rattle.common_definitions.specs.Readings.{◌>>=◌}
use Rattle.image_text.specs.FirstFault.{row_at}
use Rattle.image_text.specs.Reading.{zone_in, zones_in}
use Rattle.image_text.proofs.ReadingCalls.{bind_fails}
use Rattle.image_text.proofs.ToldRows.{IsBadRow, Tell, next_part, part, row_right, row_wrong, tell_more}

-- the first row that tells none, which is found by the rows up to it
pub record IsFirstBad (zone capacity n : ℕ) (rows : List ℕ) (fault : LoadFault) : Type 0 where
  pub before : List CountedZone
  pub few : length before < n
  pub each : Tell capacity rows before
  pub bad : IsBadRow (zone + length before) capacity (part rows (length before)) fault
  pub same : (others : List ℕ) → take ((length before + 1) * 8) others ≡ take ((length before + 1) * 8) rows → zones_in zone capacity n others ≡ Err fault

bad_here : (zone capacity n : ℕ) (rows : List ℕ) (fault : LoadFault) → zone_in zone capacity (take 8 rows) ≡ Err fault → IsFirstBad zone capacity (suc n) rows fault
bad_here zone capacity n rows fault e =
    let at : zone ≡ zone + 0 = omega arith in
    record {
      before = [];
      few = omega arith;
      each = λ k h. absurd (omega arith);
      bad = subst (λ (i : ℕ). IsBadRow i capacity (take 8 rows) fault) at (row_wrong zone capacity (take 8 rows) fault e);
      same = λ others same. ap (λ (r : Result CountedZone LoadFault). r >>= λ z. zones_in (zone + 1) capacity n (drop 8 others) >>= λ zs. Ok (z ∷ zs)) (ap (zone_in zone capacity) same ∙ e);
    }

bad_later : (zone capacity n : ℕ) (rows : List ℕ) (z : CountedZone) (fault : LoadFault) → zone_in zone capacity (take 8 rows) ≡ Ok z → IsFirstBad (zone + 1) capacity n (drop 8 rows) fault → IsFirstBad zone capacity (suc n) rows fault
bad_later zone capacity n rows z fault first found =
    let k = length found.before in
    let at : zone + 1 + k ≡ zone + suc k = omega arith in
    let few = found.few in
    let here : IsBadRow (zone + suc k) capacity (part (drop 8 rows) k) fault = subst (λ (i : ℕ). IsBadRow i capacity (part (drop 8 rows) k) fault) at found.bad in
    record {
      before = z ∷ found.before;
      few = omega (arith, few);
      each = tell_more capacity rows z found.before (row_right zone capacity (take 8 rows) z first) found.each;
      bad = subst (λ (row : List ℕ). IsBadRow (zone + suc k) capacity row fault) (next_part rows k) here;
      same = λ others same.
          let front : take 8 others ≡ take 8 rows = agree_before 8 ((suc k + 1) * 8) others rows (omega arith) same in
          let rest : take ((k + 1) * 8) (drop 8 others) ≡ take ((k + 1) * 8) (drop 8 rows) = agree_behind 8 ((k + 1) * 8) ((suc k + 1) * 8) others rows (omega arith) same in
          ap (λ (r : Result CountedZone LoadFault). r >>= λ z. zones_in (zone + 1) capacity n (drop 8 others) >>= λ zs. Ok (z ∷ zs)) (ap (zone_in zone capacity) front ∙ first)
          ∙ ap (λ (r : Result (List CountedZone) LoadFault). r >>= λ zs. Ok (z ∷ zs)) (found.same (drop 8 others) rest);
    }

pub first_bad : (zone capacity n : ℕ) (rows : List ℕ) (fault : LoadFault) → zones_in zone capacity n rows ≡ Err fault → IsFirstBad zone capacity n rows fault
first_bad zone capacity zero rows fault e = absurd cc
first_bad zone capacity (suc n) rows fault e =
    bind_fails (IsFirstBad zone capacity (suc n) rows) (zone_in zone capacity (take 8 rows)) (λ z. zones_in (zone + 1) capacity n (drop 8 rows) >>= λ zs. Ok (z ∷ zs)) fault e
    (bad_here zone capacity n rows)
    (λ z first later.
    bind_fails (IsFirstBad zone capacity (suc n) rows) (zones_in (zone + 1) capacity n (drop 8 rows)) (λ zs. Ok (z ∷ zs)) fault later
    (λ why at. bad_later zone capacity n rows z why first (first_bad (zone + 1) capacity n (drop 8 rows) why at))
    (λ zs all none. absurd cc))

-- a row among all rows is one of the text
pub row_of_text : (bytes : List ℕ) (n k : ℕ) → k < n → part (take (n * 8) (drop 64 bytes)) k ≡ row_at bytes k
row_of_text bytes n k h =
    let m = n * 8 in
    let i = k * 8 in
    let split : m ≡ i + (m - i) = omega arith in
    ap (λ (j : ℕ). take 8 (drop i (take j (drop 64 bytes)))) split
    ∙ ap (take 8) (drop-take i (m - i) (drop 64 bytes))
    ∙ take-take 8 (m - i) (drop i (drop 64 bytes)) (omega arith)
    ∙ ap (take 8) (drop-drop i 64 bytes)
