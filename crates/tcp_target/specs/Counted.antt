-- How exactly time is counted.
use Rattle.std.specs.Prelude.{ℕ, ◌≡◌, ◌↔◌, ◌≤◌, ◌<◌, ◌∷◌, true, List, None, length, map, sum}
use Rattle.tcp_target.specs.Clocks.{after_ticks, is_past, later_connection, later_controller}
use Rattle.tcp_target.specs.Target.{TargetState, connection_clock_at}
use Rattle.tcp_target.specs.Time.{ticked, waits}

pub record TimeIsCounted : Type 0 where
  -- a clock is past a limit just where the ticks since it was started, without the first of them, took as long
  pub limits : (limit first : ℕ) (ticks : List ℕ) → limit ≤ 18446744073709551615
      → is_past limit (after_ticks (first ∷ ticks) None) ≡ true ↔ limit ≤ sum ticks
  -- a tick counts at each connection, and for each controller,
  pub connections : (milliseconds number : ℕ) (t : TargetState) → number < 40 → length t.connection_clocks ≡ 40
      → connection_clock_at number (ticked milliseconds t) ≡ later_connection milliseconds (waits number t) (connection_clock_at number t)
  pub controllers : (milliseconds : ℕ) (t : TargetState)
      → (ticked milliseconds t).controller_clocks ≡ map (λ clock. later_controller milliseconds clock) t.controller_clocks
  -- and does nothing else: by itself it ends no connection and no controller
  pub rest : (milliseconds : ℕ) (t : TargetState)
      → ticked milliseconds t
      ≡ record t { connection_clocks = (ticked milliseconds t).connection_clocks; controller_clocks = (ticked milliseconds t).controller_clocks }
