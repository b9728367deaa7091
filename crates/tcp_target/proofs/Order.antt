-- What happens to a target keeps the order of the commands of each connection.
use Rattle.std.proofs.Common.{◌≡◌, ℕ, ◌<◌, ◌==◌, Bool, true, false, cond, set, zero, suc, List, [], ◌∷◌, length, Option, None, Some, refl, sym, ap, subst, ◌∙◌, inl, inr}
use Rattle.std.specs.Prelude.{slice_index_or}
use Rattle.std.proofs.lemmas.Bool.{cases_lt}
use Rattle.std.proofs.lemmas.List.{get_or_past, get_or-set_same}
use Rattle.tcp_pdus.specs.Direction.{identifier_of}
use Rattle.tcp_connection.specs.declared.queue.Outcome.{Outcome}
use Rattle.tcp_connection.specs.Connection.{taken}
use Rattle.tcp_connection.specs.Executing.{Execution}
use Rattle.tcp_connection.specs.Order.{entry_of}
use Rattle.tcp_connection.proofs.Proved.{stays}
use Rattle.tcp_target.specs.Connected.{refusal}
use Rattle.tcp_target.specs.declared.role.Role.{Role}
use Rattle.tcp_target.specs.declared.role.Role.TheVariants.{Unconnected, Admin, Io, Ended}
use Rattle.tcp_target.specs.Associations.{role_at}
use Rattle.tcp_target.specs.Places.{PlaceState, goes_on, ready_at, vacant}
use Rattle.tcp_target.specs.PlaceEvents.{answered_at, completed_at, executed, handed_over, returned, stepped}
use Rattle.tcp_target.specs.PlaceEvents as places
use Rattle.tcp_target.specs.PlaceOrder.{brought_at}
use Rattle.tcp_target.proofs.PlaceOrder.{PlaceMoves, answer_moves, execute_moves, go_moves, receive_moves}
use Rattle.tcp_target.specs.QueueCommands.{given_by, given_to_device, is_fabrics, is_for_device, result_of}
use Rattle.tcp_target.specs.Queues.{QueuesState, place_at, received_at, sent_at, with_place}
use Rattle.zone_state.specs.declared.status.Status.{Status}
use Rattle.zone_state.specs.declared.status.TheConstants.Status.{INVALID_COMMAND_OPCODE}
use Rattle.tcp_target.specs.declared.outcomes.TheConstants.{COMMAND_SEQUENCE_ERROR}
use Rattle.tcp_target.specs.Commands.{refused_with, served, served_as, served_by, served_io}
use Rattle.tcp_target.specs.Events.{count_of, heard_at, heard_on, received, run_ended, sent}
use Rattle.tcp_target.specs.Events as target
use Rattle.tcp_target.specs.Target.{TargetState, with_queues}
use Rattle.tcp_target.specs.Time.{ticked}
use Rattle.tcp_target.proofs.Ticking.{taken_queues, ticked_queues}
use Rattle.tcp_target.proofs.Roles.{role_in}

-- a connection that a host has came from one state to another by this, and a host has it still
pub record MovesAt (number : ℕ) (went came : List (List ℕ)) (old new : TargetState) : Type 0 where
  pub moves : PlaceMoves went came (place_at number old.queues) (place_at number new.queues)
  pub is_open : (place_at number new.queues).is_open ≡ true

-- a connection that was closed has no queue
pub left_role : (roles : List Role) (number : ℕ) → role_in (set roles number Unconnected) number ≡ Unconnected
left_role [] number = refl
left_role (role ∷ roles) zero = refl
left_role (role ∷ roles) (suc number) = left_role roles number

-- what leaves a connection as it is
pub same_at : (number : ℕ) (t u : TargetState) → (place_at number t.queues).is_open ≡ true → place_at number u.queues ≡ place_at number t.queues
    → MovesAt number [] [] t u
same_at number t u held same = record {
  moves = subst (λ (p : PlaceState). PlaceMoves [] [] (place_at number t.queues) p) (sym same) (stays (place_at number t.queues).connection);
  is_open = ap (λ (p : PlaceState). p.is_open) same ∙ held;
}

-- what happens on it
module _ (number : ℕ) (t : TargetState) (held : (place_at number t.queues).is_open ≡ true) where
  abbrev p : PlaceState
  p = place_at number t.queues

  -- a number that a host has is one that there is
  pub within : number < length t.queues.places
  within = elim (cases_lt number (length t.queues.places)) [
    | inl less ↦ less
    | inr beyond ↦
        let none : place_at number t.queues ≡ vacant = get_or_past t.queues.places number vacant beyond in
        let shut : p.is_open ≡ false = ap (λ (q : PlaceState). q.is_open) none in
        absurd cc
  ]

  module _ (went came : List (List ℕ)) (q : PlaceState) (u : TargetState) (is : place_at number u.queues ≡ place_at number (with_place number q t.queues)) where
    there : place_at number u.queues ≡ q
    there = is ∙ get_or-set_same t.queues.places number q vacant within

    pub put_at : PlaceMoves went came p q → q.is_open ≡ true → MovesAt number went came t u
    put_at moves still = record {
      moves = subst (λ (it : PlaceState). PlaceMoves went came p it) (sym there) moves;
      is_open = ap (λ (it : PlaceState). it.is_open) there ∙ still;
    }

  -- bytes come
  still_open : (piece : List ℕ) (b : Bool)
      → (cond {A = PlaceState × ℕ} b (let t = taken p.connection piece in (stepped (t.state, t.sent) p, t.count)) (p, 0)).0.is_open ≡ true
  still_open piece true = held
  still_open piece false = held

  heard_same : (u : TargetState) (role : Role) → place_at number (heard_on role u).queues ≡ place_at number u.queues
  heard_same u Unconnected = refl
  heard_same u (Admin id) = refl
  heard_same u (Io id queue) = refl
  heard_same u Ended = refl

  heard_at_same : (u : TargetState) (count : ℕ) → place_at number (heard_at number count u).queues ≡ place_at number u.queues
  heard_at_same u count =
      elim (count == 0) as (λ b. place_at number (cond b u (heard_on (role_at number u.queues.associations) u)).queues ≡ place_at number u.queues) [
        | true ↦ refl
        | false ↦ heard_same u (role_at number u.queues.associations)
      ]

  pub receives : (piece : List ℕ) → MovesAt number [] (brought_at piece p) t (received number piece t)
  receives piece =
      put_at [] (brought_at piece p) (places.received piece p).0 (received number piece t)
      (heard_at_same (with_queues (received_at number piece t.queues) t) (count_of number piece t))
      (receive_moves piece p) (still_open piece (goes_on p))

  -- bytes were sent
  pub sends : (count : ℕ) → MovesAt number [] [] t (sent number count t)
  sends count =
      put_at [] [] (places.sent count p) (sent number count t)
      (ap (λ (q : QueuesState). place_at number q) (taken_queues number count (with_queues (sent_at number count t.queues) t)))
      (stays p.connection) held

  -- a command goes to the device
  pub hands_over : (execution : Execution) → ready_at p ≡ Some execution
      → MovesAt number (execution.entry ∷ []) [] t (target.handed_over number t)
  hands_over execution is =
      put_at (execution.entry ∷ []) [] (handed_over p) (target.handed_over number t) refl (go_moves p execution is) held

  -- one is completed
  completes : (command : ℕ) (outcome : Outcome) (bytes : List ℕ) (u : TargetState)
      → place_at number u.queues ≡ place_at number (with_place number (executed command outcome bytes p) t.queues) → MovesAt number [] [] t u
  completes command outcome bytes u is =
      put_at [] [] (executed command outcome bytes p) u is (execute_moves command outcome bytes p)
      (elim p.is_open as (λ b. (cond b (completed_at command outcome bytes (returned p)) (returned p)).is_open ≡ true) [ true ↦ held | false ↦ held ])

  pub executes : (entry : List ℕ) (outcome : Outcome) (bytes : List ℕ) → MovesAt number [] [] t (target.executed number entry outcome bytes t)
  executes entry outcome bytes =
      let r = result_of entry outcome bytes in
      completes (identifier_of entry) r.0 r.1 (target.executed number entry outcome bytes t) refl

  pub ends_run : (command : ℕ) (outcome : Outcome) → MovesAt number [] [] t (run_ended number command outcome t)
  ends_run command outcome = completes command outcome [] (run_ended number command outcome t) refl

  -- one is answered by the target
  refuses : (execution : Execution) (status : Status) → ready_at p ≡ Some execution
      → MovesAt number (execution.entry ∷ []) [] t (refused_with number execution.entry status t)
  refuses execution status is =
      put_at (execution.entry ∷ []) [] (answered_at (identifier_of execution.entry) (refusal status) [] p)
      (refused_with number execution.entry status t) refl
      (answer_moves p execution (identifier_of execution.entry) (refusal status) [] is) held

  -- on an I/O queue each that the device doesn't get
  serves_io : (execution : Execution) → ready_at p ≡ Some execution → (b : Bool) → is_for_device number execution.entry t.queues ≡ b
      → cond b (Some execution) None ≡ None → MovesAt number (execution.entry ∷ []) [] t (served_io number execution.entry t)
  serves_io execution is true device none = absurd cc
  serves_io execution is false device none =
      elim (is_fabrics execution.entry) as (λ a. MovesAt number (execution.entry ∷ []) [] t (cond a (refused_with number execution.entry INVALID_COMMAND_OPCODE t)
      (cond (is_for_device number execution.entry t.queues) t (refused_with number execution.entry COMMAND_SEQUENCE_ERROR t)))) [
        | true ↦ refuses execution INVALID_COMMAND_OPCODE is
        | false ↦
            (let P : Bool → Type 0 = λ b. MovesAt number (execution.entry ∷ []) [] t (cond b t (refused_with number execution.entry COMMAND_SEQUENCE_ERROR t)) in
            subst P (sym device) (refuses execution COMMAND_SEQUENCE_ERROR is))
      ]

  serves_by : (id queue : ℕ) → role_at number t.queues.associations ≡ Io id queue → (o : Option Execution) → ready_at p ≡ o
      → given_by o number t.queues ≡ None → MovesAt number (entry_of o) [] t (served_by o number t)
  serves_by id queue role None is none = same_at number t t held refl
  serves_by id queue role (Some execution) is none =
      let P : Role → Type 0 = λ r. MovesAt number (execution.entry ∷ []) [] t (served_as r number execution.entry t) in
      subst P (sym role) (serves_io execution is (is_for_device number execution.entry t.queues) refl none)

  pub serves : (id queue : ℕ) → role_at number t.queues.associations ≡ Io id queue → given_to_device number t.queues ≡ None
      → MovesAt number (entry_of (ready_at p)) [] t (served number t)
  serves id queue role none = serves_by id queue role (ready_at p) refl none

-- ---- time

pub ticks : (number milliseconds : ℕ) (t : TargetState) → place_at number (ticked milliseconds t).queues ≡ place_at number t.queues
ticks number milliseconds t = ap (λ (q : QueuesState). place_at number q) (ticked_queues milliseconds t)
