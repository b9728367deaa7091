-- Commands go in the order of their capsules at a place.
use Rattle.std.proofs.Common.{◌≡◌, ℕ, true, false, cond, Bool, List, [], ◌∷◌, Option, None, Some, is_some, subst}
use Rattle.tcp_connection.specs.declared.queue.Outcome.{Outcome}
use Rattle.tcp_connection.specs.declared.state.ConnectionState.{ConnectionState}
use Rattle.tcp_connection.specs.Connection.{taken}
use Rattle.tcp_connection.specs.Executing.{Execution, gone, ready}
use Rattle.tcp_connection.specs.Order.{Came, Completed, Went, after, brought, entry_of}
use Rattle.tcp_connection.proofs.Proved.{Moves, both, commands_go_in_order, moves, stays}
use Rattle.tcp_target.specs.Places.{PlaceState, goes_on, ready_at}
use Rattle.tcp_target.specs.PlaceEvents.{answered_at, completed_at, executed, kept, received, returned, stepped}
use Rattle.tcp_target.specs.PlaceOrder.{PlacesKeepOrder, brought_at}

abbrev pub PlaceMoves : (went came : List (List ℕ)) (old new : PlaceState) → Type 0
PlaceMoves went came old new = Moves went came old.connection new.connection

pub receive_moves : (piece : List ℕ) (p : PlaceState) → PlaceMoves [] (brought_at piece p) p (received piece p).0
receive_moves piece p =
    elim (goes_on p) as (λ b. PlaceMoves [] (cond b (brought piece p.connection) []) p
    (cond {A = PlaceState × ℕ} b (let t = taken p.connection piece in (stepped (t.state, t.sent) p, t.count)) (p, 0)).0) [
      | true ↦ moves (Came piece) p.connection
      | false ↦ stays p.connection
    ]

-- the command that is ready goes
module _ (p : PlaceState) (execution : Execution) where
  there : (b : Bool) → cond b (ready p.connection) None ≡ Some execution → ready p.connection ≡ Some execution
  there true is = is
  there false is = absurd cc

  pub go_moves : ready_at p ≡ Some execution → PlaceMoves (execution.entry ∷ []) [] p (kept p)
  go_moves is =
      let P : Option Execution → Type 0 = λ o. Moves (entry_of o) [] p.connection (cond (is_some o) (gone p.connection).0 p.connection) in
      subst P (there (goes_on p) is) (moves Went p.connection)

  pub answer_moves : (command : ℕ) (outcome : Outcome) (bytes : List ℕ) → ready_at p ≡ Some execution
      → PlaceMoves (execution.entry ∷ []) [] p (answered_at command outcome bytes p)
  answer_moves command outcome bytes is =
      let between : ConnectionState = (kept p).connection in
      both (execution.entry ∷ []) [] [] [] p.connection between (after (Completed command outcome bytes) between) (go_moves is)
      (moves (Completed command outcome bytes) between)

pub execute_moves : (command : ℕ) (outcome : Outcome) (bytes : List ℕ) (p : PlaceState) → PlaceMoves [] [] p (executed command outcome bytes p)
execute_moves command outcome bytes p =
    elim p.is_open as (λ b. PlaceMoves [] [] p (cond b (completed_at command outcome bytes (returned p)) (returned p))) [
      | true ↦ moves (Completed command outcome bytes) p.connection
      | false ↦ stays p.connection
    ]

pub places_keep_order : PlacesKeepOrder
places_keep_order = record {
  begins = λ p. commands_go_in_order.begins;
  receives = λ piece p. (receive_moves piece p).keeps;
  hands_over = λ p execution settled is. (go_moves p execution is).keeps settled;
  keeps = λ p execution settled is. (go_moves p execution is).keeps settled;
  answers = λ p execution command outcome bytes settled is. (answer_moves p execution command outcome bytes is).keeps settled;
  executes = λ command outcome bytes p. (execute_moves command outcome bytes p).keeps;
  sends = λ count p. (stays p.connection).keeps;
}
