-- Time is counted exactly.
use Rattle.std.proofs.Common.{◌≡◌, ◌≢◌, ◌↔◌, ℕ, ◌+◌, ◌<◌, ◌≤◌, ◌==◌, zero, suc, true, false, List, [], ◌∷◌, length, set, map, min, Option, None, Some, refl, sym, ap, subst, ◌∙◌, arith}
use Rattle.std.specs.Prelude.{nat_le, sum}
use Rattle.std.proofs.lemmas.Bool.{eqb-false, eqb-true, le-leb, leb-true}
use Rattle.std.proofs.lemmas.List.{get_or-set_other, get_or-set_same, length-set}
use Rattle.std.proofs.lemmas.List.Sums.{sum_by-cons}
use Rattle.tcp_target.specs.Queues.{QueuesState}
use Rattle.tcp_target.specs.declared.clocks.ConnectionClock.{ConnectionClock}
use Rattle.tcp_target.specs.declared.clocks.ControllerClock.{ControllerClock}
use Rattle.tcp_target.specs.Clocks.{after_ticks, is_past, later_connection, later_controller, started_connection}
use Rattle.tcp_target.specs.Counted.{TimeIsCounted}
use Rattle.tcp_target.specs.Target.{TargetState, connection_clock_at}
use Rattle.tcp_target.specs.Time.{counted_below, ticked, waits}
use Rattle.tcp_target.proofs.Ticking.{counted_queues}

-- ---- a clock

abbrev most : ℕ
most = 18446744073709551615

-- what a clock has counted after ticks
counted : (ticks : List ℕ) (n : ℕ) → n ≤ most → after_ticks ticks (Some n) ≡ Some (min (n + sum ticks) most)
counted [] n few = ap (λ (m : ℕ). Some m) (omega arith)
counted (t ∷ ticks) n few =
    let here : ℕ = min (n + t) most in
    let all : sum (t ∷ ticks) ≡ t + sum ticks = sum_by-cons (λ (m : ℕ). m) t ticks in
    counted ticks here (omega arith) ∙ ap (λ (m : ℕ). Some m) (omega (arith, all))

limits : (limit first : ℕ) (ticks : List ℕ) → limit ≤ most → is_past limit (after_ticks (first ∷ ticks) None) ≡ true ↔ limit ≤ sum ticks
limits limit first ticks few =
    let is : after_ticks ticks (Some 0) ≡ Some (min (0 + sum ticks) most) = counted ticks 0 (omega arith) in
    let test = ap (λ (clock : Option ℕ). is_past limit clock) is in (
      λ past. let less = leb-true limit (min (0 + sum ticks) most) (sym test ∙ past) in omega (arith, less, few),
      λ less. test ∙ le-leb limit (min (0 + sum ticks) most) (omega (arith, less, few)),
    )

-- ---- the clocks of connections

module _ (milliseconds : ℕ) (t : TargetState) where
  abbrev below : ℕ → TargetState
  below n = counted_below milliseconds n t

  abbrev counts : ℕ → TargetState → ConnectionClock
  counts number u = later_connection milliseconds (waits number u) (connection_clock_at number u)

  all_there : (n : ℕ) → length (below n).connection_clocks ≡ length t.connection_clocks
  unfolding counted_below
  all_there zero = refl
  all_there (suc n) = length-set (below n).connection_clocks n (counts n (below n)) ∙ all_there n

  -- those with higher numbers are as they were
  above : (n k : ℕ) → n ≤ k → connection_clock_at k (below n) ≡ connection_clock_at k t
  unfolding counted_below
  above zero k least = refl
  above (suc n) k least =
      let unlike : k ≢ n = λ same. omega (arith, same, least) in
      get_or-set_other (below n).connection_clocks n k (counts n (below n)) started_connection unlike ∙ above n k (omega (arith, least))

  counts_same : (n : ℕ) → counts n (below n) ≡ counts n t
  counts_same n =
      ap (λ (q : QueuesState). later_connection milliseconds (waits n (record t { queues = q })) (connection_clock_at n (below n))) (counted_queues milliseconds n t)
      ∙ ap (λ (clock : ConnectionClock). later_connection milliseconds (waits n t) clock) (above n n (omega arith))

  each : (n k : ℕ) → k < n → n ≤ length t.connection_clocks → connection_clock_at k (below n) ≡ counts k t
  unfolding counted_below
  each zero k less within = absurd (omega (arith, less))
  each (suc n) k less within =
      elim (k == n) as (λ b. (k == n) ≡ b → connection_clock_at k (below (suc n)) ≡ counts k t) [
        | true ↦ λ same.
            (let is : k ≡ n = eqb-true k n same in
            let there : n < length (below n).connection_clocks = omega (arith, all_there n, within) in
            subst (λ (m : ℕ). connection_clock_at m (below (suc n)) ≡ counts m t) (sym is)
            (get_or-set_same (below n).connection_clocks n (counts n (below n)) started_connection there ∙ counts_same n))
        | false ↦ λ other.
            (let unlike : k ≢ n = eqb-false k n other in
            get_or-set_other (below n).connection_clocks n k (counts n (below n)) started_connection unlike
            ∙ each n k (omega (arith, less, unlike)) (omega (arith, within)))
      ] refl

  controllers_same : (n : ℕ) → (below n).controller_clocks ≡ t.controller_clocks
  unfolding counted_below
  controllers_same zero = refl
  controllers_same (suc n) = controllers_same n

  rest_same : (n : ℕ) → below n ≡ record t { connection_clocks = (below n).connection_clocks }
  unfolding counted_below
  rest_same zero = refl
  rest_same (suc n) =
      ap (λ (u : TargetState). record u { connection_clocks = set (below n).connection_clocks n (counts n (below n)) }) (rest_same n)

abbrev controllers_counted : ℕ → TargetState → TargetState
controllers_counted milliseconds t = record t { controller_clocks = map (λ clock. later_controller milliseconds clock) t.controller_clocks }

pub time_is_counted : TimeIsCounted
time_is_counted = record {
  limits = limits;
  connections = λ milliseconds number t less all. each milliseconds (controllers_counted milliseconds t) 40 number less (omega (arith, all));
  controllers = λ milliseconds t. controllers_same milliseconds (controllers_counted milliseconds t) 40;
  rest = λ milliseconds t.
      rest_same milliseconds (controllers_counted milliseconds t) 40
      ∙ ap (λ (clocks : List ControllerClock). record t { connection_clocks = (ticked milliseconds t).connection_clocks; controller_clocks = clocks })
      (sym (controllers_same milliseconds (controllers_counted milliseconds t) 40));
}
