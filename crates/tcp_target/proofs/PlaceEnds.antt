-- Behind the end of a connection nothing is taken, and nothing more is sent.
use Rattle.std.proofs.Common.{◌≡◌, ℕ, ◌-◌, Bool, true, false, not, cond, ◌&&◌, List, [], ◌++◌, refl, sym, ap, ◌∙◌, append-nil}
use Rattle.tcp_connection.specs.declared.queue.Outcome.{Outcome}
use Rattle.tcp_connection.specs.declared.queue.Phase.{Phase}
use Rattle.tcp_connection.specs.declared.queue.Phase.TheVariants.{Ended}
use Rattle.tcp_connection.specs.declared.state.ConnectionState.{ConnectionState}
use Rattle.tcp_connection.specs.Connection.{Step, taken, took}
use Rattle.tcp_connection.specs.Executing.{completed, completed_in, ready}
use Rattle.tcp_connection.specs.Queue.{is_ended}
use Rattle.std.specs.Prelude.{is_some}
use Rattle.tcp_target.specs.Places.{PlaceState, goes_on}
use Rattle.tcp_target.specs.PlaceEvents.{executed, received, returned, stepped}
use Rattle.tcp_target.specs.PlaceLaws.{NothingBehindTheEnd}

nothing_taken : (s : ConnectionState) (piece : List ℕ) → s.phase ≡ Ended → taken s piece ≡ record { state = s; sent = []; count = 0 }
nothing_taken s piece is =
    ap (λ (phase : Phase). cond {A = Step} (not (is_ended phase) && not (is_some (ready s))) (took s piece) (record { state = s; sent = []; count = 0 })) is

same : (p : PlaceState) → stepped (p.connection, []) p ≡ p
same p = ap (λ (unsent : List ℕ). record p { unsent = unsent }) (append-nil p.unsent)

takes : (p : PlaceState) (piece : List ℕ) → p.connection.phase ≡ Ended → received piece p ≡ (p, 0)
takes p piece is =
    elim (goes_on p) as (λ b. cond {A = PlaceState × ℕ} b (let t = taken p.connection piece in (stepped (t.state, t.sent) p, t.count)) (p, 0) ≡ (p, 0)) [
      | true ↦
          ap (λ (t : Step). (stepped (t.state, t.sent) p, t.count)) (nothing_taken p.connection piece is) ∙ ap (λ (q : PlaceState). (q, 0)) (same p)
      | false ↦ refl
    ]

nothing_sent : (s : ConnectionState) (command : ℕ) (outcome : Outcome) (bytes : List ℕ) → s.phase ≡ Ended → (completed command outcome bytes s).1 ≡ []
nothing_sent s command outcome bytes is = ap (λ (phase : Phase). (completed_in phase command outcome bytes s).1) is

sends : (p : PlaceState) (command : ℕ) (outcome : Outcome) (bytes : List ℕ) → p.connection.phase ≡ Ended
    → (executed command outcome bytes p).unsent ≡ p.unsent
sends p command outcome bytes is =
    elim p.is_open as (λ b. (cond b (stepped (completed command outcome bytes p.connection) (returned p)) (returned p)).unsent ≡ p.unsent) [
      | true ↦ ap (λ (added : List ℕ). p.unsent ++ added) (nothing_sent p.connection command outcome bytes is) ∙ append-nil p.unsent
      | false ↦ refl
    ]

pub nothing_behind_the_end : NothingBehindTheEnd
nothing_behind_the_end = record { takes = takes; sends = sends }
