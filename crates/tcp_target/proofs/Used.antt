-- A host has the connection of an I/O queue, which has dealt with each PDU that came whole, in every state of a target.
use Rattle.std.proofs.Common.{◌≡◌, ℕ, ◌==◌, ◌&&◌, Bool, true, false, cond, zero, suc, nat_le, nat_lt, List, [], ◌∷◌, length, set, not, Option, None, Some, Result, Ok, Err, refl, sym, ap, subst, ◌∙◌, inl, inr}
use Rattle.std.specs.Prelude.{slice_index_or}
use Rattle.std.proofs.lemmas.Bool.{and_parts}
use Rattle.std.proofs.lemmas.List.{get_or-set_same}
use Rattle.std.proofs.lemmas.List.Quantifiers.{position-Some}
use Rattle.tcp_pdus.specs.Direction.{identifier_of}
use Rattle.tcp_connection.specs.declared.queue.Outcome.{Outcome}
use Rattle.tcp_connection.specs.Connection.{taken}
use Rattle.tcp_connection.specs.Executing.{Execution, ready}
use Rattle.tcp_connection.specs.Order.{Completed, IsSettled}
use Rattle.tcp_connection.proofs.Proved.{moves, stays}
use Rattle.tcp_admin.specs.declared.answer.Answer.{Answer}
use Rattle.tcp_admin.specs.declared.answer.Answer.TheVariants as answer
use Rattle.tcp_admin.specs.Admin.{response}
use Rattle.tcp_admin.specs.Properties.{got, is_just_ready, set_by, set_result, set_state}
use Rattle.tcp_admin.specs.Properties as properties
use Rattle.tcp_target.specs.declared.connected.Connected.{Connected}
use Rattle.tcp_target.specs.declared.connect_request.ConnectRequest.{ConnectRequest}
use Rattle.tcp_target.specs.Connected.{refusal, success}
use Rattle.tcp_target.specs.ConnectRequest.{request_in}
use Rattle.tcp_target.specs.declared.role.Role.{Role}
use Rattle.tcp_target.specs.declared.role.Role.TheVariants.{Unconnected, Admin, Io, Ended}
use Rattle.tcp_target.specs.Associations.{ended, ended_with, role_at, roles_with}
use Rattle.tcp_target.specs.Roles.{role_of, without, without_io}
use Rattle.tcp_target.specs.Places.{PlaceState, goes_on, is_free, ready_at, vacant}
use Rattle.tcp_target.specs.PlaceEvents.{answered_at, closed, completed_at, connected_at, executed, handed_over, joined, kept, opened, returned, stepped}
use Rattle.tcp_target.specs.PlaceEvents as places
use Rattle.tcp_target.specs.PlaceOrder.{brought_at}
use Rattle.tcp_target.proofs.PlaceOrder.{answer_moves, execute_moves, go_moves, receive_moves}
use Rattle.tcp_target.specs.QueueCommands.{connect_answer_at, connect_data_at, connected_by, result_of}
use Rattle.tcp_target.specs.QueueCommands as queues
use Rattle.tcp_target.specs.Ends.{closed_at, controller_ended}
use Rattle.tcp_target.specs.Queues.{QueuesState, free_number, opened_at, place_at, received_at, sent_at, with_place}
use Rattle.tcp_target.specs.Commands.{completed_by, connected_with, refused_with, served, served_by, served_get, served_set, set_outcome, value_outcome, with_made}
use Rattle.tcp_target.specs.Events.{count_of, heard_at, heard_on}
use Rattle.tcp_target.specs.Events as target
use Rattle.tcp_target.specs.Target.{TargetState, controller_at, heard, heard_on_io, with_controller, with_queues}
use Rattle.tcp_target.specs.Time.{ticked}
use Rattle.tcp_target.proofs.Ticking.{opened_queues, taken_queues, ticked_queues}
use Rattle.tcp_target.proofs.Order.{left_role, within}
use Rattle.tcp_target.proofs.Roles.{left_io, left_io_io, role_in, role_mapped, role_set}
use Rattle.tcp_target.proofs.Served.{HoldsOfEach, of_served_as}
use Rattle.tcp_target.proofs.Fine.{AreFine, IsFine, IsUsed, WasIo, WereIo, fine_as, fine_put, fine_where, here, same_io}

-- ---- a connection begins, and ends

not_open : (b : Bool) → not b ≡ true → b ≡ true → ⊥
not_open true is is_open = cc
not_open false is is_open = cc

module _ (q : QueuesState) (fine : AreFine q) where
  opened_fine : (n : Option ℕ) → free_number q ≡ n → AreFine (opened_at n q)
  opened_fine None is = fine
  opened_fine (Some n) is =
      let r : QueuesState = opened_at (Some n) q in
      let p : PlaceState = place_at n q in
      let free : is_free p ≡ true = (position-Some is_free q.places n vacant is).1 in
      let shut : not p.is_open ≡ true = (and_parts (not p.is_open) (p.executing == 0) free).0 in
      λ number. fine_where n (opened p) q r refl number (number == n) refl
      (here n (opened p) q r refl (λ it. IsFine it (role_at n q.associations))
      (record {
        settled = λ held on. refl;
        io = λ id queue role. absurd (not_open p.is_open shut ((fine n).io id queue role).is_open);
      })
      (fine n))
      (λ unlike. same_io (role_at number q.associations)) fine

  ended_was : (role : Role) (number : ℕ) → WasIo (role_in q.associations.roles number) (role_in (ended_with role q.associations).roles number)
  ended_was Unconnected number id queue is = is
  ended_was (Admin k) number id queue is =
      (left_io k id queue (role_in q.associations.roles number) (sym (role_mapped (λ role. without k role) refl q.associations.roles number) ∙ is)).0
  ended_was (Io k other) number id queue is = is
  ended_was Ended number id queue is = is

  pub closes_fine : (n : ℕ) → AreFine (closed_at n q)
  closes_fine n number =
      let r : QueuesState = closed_at n q in
      let p : PlaceState = place_at n q in
      let rest : List Role = (ended_with (role_at n q.associations) q.associations).roles in
      let none : role_at n r.associations ≡ Unconnected = left_role rest n in
      let was : WasIo (role_at n q.associations) (role_at n r.associations) = λ id queue is. absurd (cc) in
      fine_where n (closed p) q r refl number (number == n) refl
      (here n (closed p) q r refl (λ it. IsFine it (role_at n r.associations))
      (record { settled = λ held. absurd cc; io = λ id queue is. absurd (cc) })
      (fine_as p (role_at n q.associations) (role_at n r.associations) was (fine n)))
      (λ unlike id queue is. elim (role_set rest n number Unconnected (Io id queue) is) [
        | inl there ↦ absurd (unlike there.0)
        | inr before ↦ ended_was (role_at n q.associations) number id queue before
      ]) fine

  -- ---- controllers

  pub ends_fine : (id : ℕ) → AreFine (controller_ended id q)
  ends_fine id number =
      fine_as (place_at number q) (role_at number q.associations) (role_at number (ended id q.associations))
      (λ k queue is.
      (left_io id k queue (role_in q.associations.roles number) (sym (role_mapped (λ role. without id role) refl q.associations.roles number) ∙ is)).0)
      (fine number)

  readied_was : (id : ℕ) (ready : Bool) (number : ℕ) → WasIo (role_in q.associations.roles number) (role_in (roles_with id ready q.associations.roles) number)
  readied_was id true number k queue is = is
  readied_was id false number k queue is =
      (left_io_io id k queue (role_in q.associations.roles number)
      (sym (role_mapped (λ role. without_io id role) refl q.associations.roles number) ∙ is)).0

-- ---- a command that is ready

module _ (number : ℕ) (t : TargetState) (fine : AreFine t.queues) (execution : Execution)
    (ready_now : ready_at (place_at number t.queues) ≡ Some execution) where
  abbrev q : QueuesState
  q = t.queues

  abbrev p : PlaceState
  p = place_at number t.queues

  abbrev entry : List ℕ
  entry = execution.entry

  -- the connection has it, and a host has that
  found : (b : Bool) → goes_on p ≡ b → cond b (ready p.connection) None ≡ Some execution → (ready p.connection ≡ Some execution) × (p.is_open ≡ true)
  found true goes is = (
    is,
    (and_parts p.is_open (nat_le (length p.unsent) 262144)
        (and_parts (p.is_open && nat_le (length p.unsent) 262144) (nat_lt p.executing 128) goes).0).0,
  )
  found false goes is = absurd cc

  held : p.is_open ≡ true
  held = (found (goes_on p) refl ready_now).1

  -- it is answered,
  answers : (outcome : Outcome) (bytes : List ℕ) (r : QueuesState)
      → r.places ≡ (with_place number (answered_at (identifier_of entry) outcome bytes p) q).places → WereIo q r → AreFine r
  answers outcome bytes r is was =
      fine_put number (answered_at (identifier_of entry) outcome bytes p) q r is (entry ∷ []) []
      (answer_moves p execution (identifier_of entry) outcome bytes ready_now) refl was fine

  -- or kept
  completes : (a : Answer) (bytes : List ℕ) → AreFine (completed_by a number entry bytes q)
  completes (answer.Completed outcome) bytes = answers outcome bytes (completed_by (answer.Completed outcome) number entry bytes q) refl (λ n. same_io (role_at n q.associations))
  completes answer.Kept bytes =
      fine_put number (kept p) q (completed_by answer.Kept number entry bytes q) refl (entry ∷ []) [] (go_moves p execution ready_now) refl
      (λ n. same_io (role_at n q.associations)) fine

  -- Connect
  module _ (c : Connected) where
    joined_now : PlaceState
    joined_now = joined c.queue c.in_capsule (kept p)

    ends_up : PlaceState
    ends_up = connected_at c.queue c.in_capsule (identifier_of entry) (success c.controller) p

    settled_now : IsSettled joined_now.connection
    unfolding joined_now
    settled_now = (go_moves p execution ready_now).settles ((fine number).settled held)

    used : IsUsed ends_up
    unfolding joined_now ends_up settled_now
    used = record {
      is_open = held;
      settled = (moves (Completed (identifier_of entry) (success c.controller) []) joined_now.connection).settles settled_now;
    }

    fine_now : (role : Role) → IsFine ends_up role
    fine_now role = record { settled = λ is. used.settled; io = λ id queue is. used }

    enters : (bytes : List ℕ) → AreFine (connected_by (Ok c) number (identifier_of entry) bytes q)
    unfolding ends_up
    enters bytes n =
        let r : QueuesState = connected_by (Ok c) number (identifier_of entry) bytes q in
        let there : place_at number r ≡ ends_up = get_or-set_same q.places number ends_up vacant (within number t held) in
        fine_where number ends_up q r refl n (n == number) refl
        (subst (λ (it : PlaceState). IsFine it (role_at number r.associations)) (sym there)
        (fine_now (role_at number r.associations)))
        (λ unlike id queue is. elim (role_set q.associations.roles number n (role_of c) (Io id queue) is) [
          | inl same ↦ absurd (unlike same.0)
          | inr before ↦ before
        ]) fine

  joins : (request : ConnectRequest) (a : Result Connected Outcome) → connect_answer_at number request t.subsystem.nqn q ≡ a
      → AreFine (connected_by a number (identifier_of entry) (connect_data_at number q) q)
  joins request (Err outcome) is =
      answers outcome [] (connected_by (Err outcome) number (identifier_of entry) (connect_data_at number q) q) refl (λ n. same_io (role_at n q.associations))
  joins request (Ok c) is =
      enters c (connect_data_at number q)

  made : (request : ConnectRequest) (a : Result Connected Outcome) (u : TargetState) → AreFine u.queues → AreFine (with_made request a u).queues
  made request (Err outcome) u same = same
  made request (Ok c) u same =
      elim (c.queue.id == 0) as (λ b. AreFine (cond b (heard c.controller (with_controller c.controller (properties.begun c.controller request.keep_alive_timeout) u)) (heard_on_io c.controller u)).queues) [
        | true ↦ same
        | false ↦ same
      ]

  connects : (request : ConnectRequest) → AreFine (connected_with number entry request t).queues
  connects request =
      made request (connect_answer_at number request t.subsystem.nqn q)
      (with_queues (queues.connected number (identifier_of entry) request t.subsystem.nqn q) t)
      (joins request (connect_answer_at number request t.subsystem.nqn q) refl)

  each : HoldsOfEach (λ u. AreFine u.queues) number entry t
  each = record {
    nothing = fine;
    refused = λ status. answers (refusal status) [] (refused_with number entry status t).queues refl (λ n. same_io (role_at n q.associations));
    connects = connects (request_in entry);
    sets = λ id. (let r = set_by entry (controller_at id t) in
        answers (set_outcome (set_result r)) [] (served_set number id entry t).queues refl
        (readied_was q fine id (is_just_ready (set_state r (controller_at id t)).status)));
    gets = λ id. answers (value_outcome (got entry (controller_at id t))) [] (served_get number id entry t).queues refl
        (λ n. same_io (role_at n q.associations));
    commands = λ id. (let r = response entry t.subsystem t.format (controller_at id t) in completes r.answer r.«data»);
  }

serves_by : (number : ℕ) (t : TargetState) → AreFine t.queues → (o : Option Execution) → ready_at (place_at number t.queues) ≡ o
    → AreFine (served_by o number t).queues
serves_by number t fine None is = fine
serves_by number t fine (Some execution) is =
    of_served_as (λ u. AreFine u.queues) number execution.entry t (each number t fine execution is) (role_at number t.queues.associations)

pub serves_fine : (number : ℕ) (t : TargetState) → AreFine t.queues → AreFine (served number t).queues
serves_fine number t fine = serves_by number t fine (ready_at (place_at number t.queues)) refl

-- ---- what else happens on a connection

pub opens_fine : (t : TargetState) → AreFine t.queues → AreFine (target.opened t).queues
opens_fine t fine =
    let n : Option ℕ = free_number t.queues in
    subst (λ (q : QueuesState). AreFine q) (sym (opened_queues n (with_queues (opened_at n t.queues) t))) (opened_fine t.queues fine n refl)

module _ (number : ℕ) (t : TargetState) (fine : AreFine t.queues) where
  heard_fine : (u : TargetState) (role : Role) → AreFine u.queues → AreFine (heard_on role u).queues
  heard_fine u Unconnected same = same
  heard_fine u (Admin id) same = same
  heard_fine u (Io id queue) same = same
  heard_fine u Ended same = same

  heard_at_fine : (u : TargetState) (count : ℕ) → AreFine u.queues → AreFine (heard_at number count u).queues
  heard_at_fine u count same =
      elim (count == 0) as (λ b. AreFine (cond b u (heard_on (role_at number u.queues.associations) u)).queues) [
        | true ↦ same
        | false ↦ heard_fine u (role_at number u.queues.associations) same
      ]

  still : (piece : List ℕ) (b : Bool) (p : PlaceState)
      → (cond {A = PlaceState × ℕ} b (let s = taken p.connection piece in (stepped (s.state, s.sent) p, s.count)) (p, 0)).0.is_open ≡ p.is_open
  still piece true p = refl
  still piece false p = refl

  pub receives_fine : (piece : List ℕ) → AreFine (target.received number piece t).queues
  receives_fine piece =
      let p : PlaceState = place_at number t.queues in
      heard_at_fine (with_queues (received_at number piece t.queues) t) (count_of number piece t)
      (fine_put number (places.received piece p).0 t.queues (received_at number piece t.queues) refl [] (brought_at piece p)
      (receive_moves piece p) (still piece (goes_on p) p) (λ n. same_io (role_at n t.queues.associations)) fine)

  pub sends_fine : (count : ℕ) → AreFine (target.sent number count t).queues
  sends_fine count =
      let p : PlaceState = place_at number t.queues in
      let r : QueuesState = sent_at number count t.queues in
      subst (λ (q : QueuesState). AreFine q) (sym (taken_queues number count (with_queues r t)))
      (fine_put number (places.sent count p) t.queues r refl [] [] (stays p.connection) refl
      (λ n. same_io (role_at n t.queues.associations)) fine)

  pub hands_over_fine : (execution : Execution) → ready_at (place_at number t.queues) ≡ Some execution
      → AreFine (target.handed_over number t).queues
  hands_over_fine execution is =
      let p : PlaceState = place_at number t.queues in
      fine_put number (handed_over p) t.queues (target.handed_over number t).queues refl (execution.entry ∷ []) [] (go_moves p execution is) refl
      (λ n. same_io (role_at n t.queues.associations)) fine

  executed_open : (command : ℕ) (outcome : Outcome) (bytes : List ℕ) (b : Bool) (p : PlaceState)
      → (cond b (completed_at command outcome bytes (returned p)) (returned p)).is_open ≡ p.is_open
  executed_open command outcome bytes true p = refl
  executed_open command outcome bytes false p = refl

  executes_as : (command : ℕ) (outcome : Outcome) (bytes : List ℕ)
      → AreFine (with_place number (executed command outcome bytes (place_at number t.queues)) t.queues)
  executes_as command outcome bytes =
      let p : PlaceState = place_at number t.queues in
      fine_put number (executed command outcome bytes p) t.queues (with_place number (executed command outcome bytes p) t.queues) refl [] []
      (execute_moves command outcome bytes p) (executed_open command outcome bytes p.is_open p) (λ n. same_io (role_at n t.queues.associations)) fine

  pub executes_fine : (entry : List ℕ) (outcome : Outcome) (bytes : List ℕ) → AreFine (target.executed number entry outcome bytes t).queues
  executes_fine entry outcome bytes = let r = result_of entry outcome bytes in executes_as (identifier_of entry) r.0 r.1

  pub ends_run_fine : (command : ℕ) (outcome : Outcome) → AreFine (target.run_ended number command outcome t).queues
  ends_run_fine command outcome = executes_as command outcome []

-- ---- time

pub ticks_fine : (milliseconds : ℕ) (t : TargetState) → AreFine t.queues → AreFine (ticked milliseconds t).queues
ticks_fine milliseconds t fine = subst (λ (q : QueuesState). AreFine q) (sym (ticked_queues milliseconds t)) fine
