-- What a target before a device says of connections, so that its loop is fair to hosts.
use Rattle.std.proofs.Common.{◌≡◌, ◌≢◌, ◌≤◌, ◌<◌, ℕ, zero, suc, ◌==◌, ⊎_elim, Bool, true, false, not, ◌&&◌, ◌||◌, cond, List, [], ◌∷◌, ◌++◌, length, set, Option, None, Some, Result, Ok, Err, refl, sym, ap, subst, ◌∙◌, append_assoc, arith}
use Rattle.std.specs.Prelude.{nat_le, slice_index, slice_index_or}
use Rattle.std.specs.List.{position_or_len}
use Rattle.std.proofs.lemmas.Bool.{cases_lt, le-leb, ltb-false}
use Rattle.std.proofs.lemmas.Bool.Decides.{eqb_tells}
use Rattle.std.proofs.lemmas.List.{append-nil, get_or-set_other, get_or-set_same}
use Rattle.std.proofs.lemmas.List.Quantifiers.{position-Some}
use Rattle.std.proofs.lemmas.List.Sums.{fails_before_first}
use Rattle.device_events.specs.declared.reply.Reply.{Reply}
use Rattle.device_events.specs.declared.reply.Reply.TheVariants as reply
use Rattle.tcp_admin.specs.Admin.{response}
use Rattle.tcp_admin.specs.Properties.{set_by, set_result, set_state}
use Rattle.tcp_admin.specs.declared.answer.Answer.{Answer}
use Rattle.tcp_admin.specs.declared.answer.Answer.TheVariants.{Completed, Kept}
use Rattle.tcp_target.specs.declared.connected.Connected.{Connected}
use Rattle.tcp_target.specs.declared.connect_request.ConnectRequest.{ConnectRequest}
use Rattle.tcp_target.specs.declared.role.Role.{Role}
use Rattle.tcp_target.specs.declared.role.Role.TheVariants.{Unconnected, Admin, Io, Ended}
use Rattle.tcp_target.specs.Associations.{role_at}
use Rattle.tcp_target.specs.Connected.{success}
use Rattle.tcp_target.specs.ConnectRequest.{request_in}
use Rattle.tcp_connection.specs.Connection.{taken}
use Rattle.tcp_connection.specs.Executing.{Execution, completed, gone}
use Rattle.tcp_connection.specs.declared.queue.Outcome.{Outcome}
use Rattle.tcp_connection.specs.declared.state.ConnectionState.{ConnectionState}
use Rattle.tcp_pdus.specs.Direction.{identifier_of}
use Rattle.tcp_target.specs.QueueCommands.{connect_answer_at, connect_place, connected, given_to_device, is_fabrics, is_for_device, result_of}
use Rattle.tcp_target.specs.PlaceEvents as change
use Rattle.tcp_target.specs.Places.{PlaceState, goes_on, is_free, ready_at, vacant}
use Rattle.tcp_target.specs.Queues.{QueuesState, free_number, opened_at, place_at, received_at, sent_at, with_place}
use Rattle.tcp_target.specs.Commands.{answered_with, completed_by, is_connect, served_as, served_by, served_command, served_fabrics, served_unconnected, set_outcome, with_made, with_set}
use Rattle.tcp_target.specs.Events.{count_of, executed, handed_over, heard_at, heard_on}
use Rattle.tcp_target.specs.Target.{TargetState, controller_at, with_queues}
use Rattle.tcp_target.proofs.Ticking.{opened_queues, taken_queues, ticked_queues}
use Rattle.tcp_device.specs.Outcome.{outcome_in}
use Rattle.tcp_device.specs.Served as device
use Rattle.tcp_device.specs.Served.{ResumesGiven, ServesGiven, TurnsGiven, ended_by, ended_with, next_run}
use Rattle.tcp_device.specs.State.{CommandOfRun, ServedState}
use Rattle.tcp_loop.specs.Deeds.{Closed, Deed, Opened, Received, Resumed, Sent, Served, Ticked, Turned}
use Rattle.tcp_loop.specs.Law.{IsFrontOf}
use Rattle.tcp_loop.specs.Orderly.{takes_away, there_after}
use Rattle.tcp_device.specs.LoopMeaning.{does, unsent_on}
use Rattle.tcp_device.specs.Orderly.{TargetsAreOrderly, free_of, is_held, is_there}

-- ---- a place

-- it has a connection as before, and what is to be sent has only grown
record KeepsPlace (p q : PlaceState) : Type 0 where
  pub is_open : q.is_open ≡ p.is_open
  pub front : IsFrontOf p.unsent q.unsent

keeps_same : (p : PlaceState) → KeepsPlace p p
keeps_same p = record { is_open = refl; front = ([], sym (append-nil p.unsent)) }

keeps_two : (p q r : PlaceState) → KeepsPlace p q → KeepsPlace q r → KeepsPlace p r
keeps_two p q r first second = record {
  is_open = second.is_open ∙ first.is_open;
  front = (
    first.front.0 ++ second.front.0,
    second.front.1 ∙ ap (λ (l : List ℕ). l ++ second.front.0) first.front.1 ∙ append_assoc p.unsent first.front.0 second.front.0,
  );
}

keeps_step : (step : ConnectionState × List ℕ) (p : PlaceState) → KeepsPlace p (change.stepped step p)
keeps_step step p = record { is_open = refl; front = (step.1, refl) }

keeps_answered : (command : ℕ) (outcome : Outcome) (bytes : List ℕ) (p : PlaceState) → KeepsPlace p (change.answered_at command outcome bytes p)
keeps_answered command outcome bytes p =
    keeps_two p (change.kept p) _ (keeps_step (gone p.connection) p) (keeps_step (completed command outcome bytes (change.kept p).connection) (change.kept p))

keeps_connect : (answer : Result Connected Outcome) (command : ℕ) (p : PlaceState) → KeepsPlace p (connect_place answer command p)
keeps_connect (Ok c) command p =
    let q : PlaceState = change.joined c.queue c.in_capsule (change.kept p) in
    keeps_two p q _ (keeps_two p (change.kept p) q (keeps_step (gone p.connection) p)
    (record { is_open = refl; front = ([], sym (append-nil (change.kept p).unsent)) })) (keeps_step (completed command (success c.controller) [] q.connection) q)
keeps_connect (Err outcome) command p = keeps_answered command outcome [] p

keeps_handed : (p : PlaceState) → KeepsPlace p (change.handed_over p)
keeps_handed p = record { is_open = refl; front = ((gone p.connection).1, refl) }

keeps_executed : (command : ℕ) (outcome : Outcome) (bytes : List ℕ) (p : PlaceState) → KeepsPlace p (change.executed command outcome bytes p)
keeps_executed command outcome bytes p =
    elim p.is_open as (λ b. KeepsPlace p (cond b (change.completed_at command outcome bytes (change.returned p)) (change.returned p))) [
      | true ↦ record { is_open = refl; front = ((completed command outcome bytes (change.returned p).connection).1, refl) }
      | false ↦ record { is_open = refl; front = ([], sym (append-nil p.unsent)) }
    ]

keeps_received : (piece : List ℕ) (p : PlaceState) → KeepsPlace p (change.received piece p).0
keeps_received piece p =
    let t = taken p.connection piece in
    elim (goes_on p) as (λ b. KeepsPlace p (cond {A = PlaceState × ℕ} b (change.stepped (t.state, t.sent) p, t.count) (p, 0)).0) [
      | true ↦ keeps_step (t.state, t.sent) p
      | false ↦ keeps_same p
    ]

-- ---- all places

-- the connection at a place, of all places
abbrev placed : List PlaceState → ℕ → PlaceState
placed places number = slice_index_or places number vacant

keeps_set : (places : List PlaceState) (number other : ℕ) (p : PlaceState) → KeepsPlace (placed places number) p
    → KeepsPlace (placed places other) (placed (set places number p) other)
keeps_set [] number other p keeps = keeps_same vacant
keeps_set (q ∷ places) zero zero p keeps = keeps
keeps_set (q ∷ places) zero (suc other) p keeps = keeps_same (placed places other)
keeps_set (q ∷ places) (suc number) zero p keeps = keeps_same q
keeps_set (q ∷ places) (suc number) (suc other) p keeps = keeps_set places number other p keeps

open_set : (places : List PlaceState) (number other : ℕ) (p : PlaceState) → p.is_open ≡ (placed places number).is_open
    → (placed (set places number p) other).is_open ≡ (placed places other).is_open
open_set [] number other p same = refl
open_set (q ∷ places) zero zero p same = same
open_set (q ∷ places) zero (suc other) p same = refl
open_set (q ∷ places) (suc number) zero p same = refl
open_set (q ∷ places) (suc number) (suc other) p same = open_set places number other p same

closed_set : (places : List PlaceState) (number : ℕ) (p : PlaceState) → p.is_open ≡ false → (placed (set places number p) number).is_open ≡ false
closed_set [] number p closed = refl
closed_set (q ∷ places) zero p closed = closed
closed_set (q ∷ places) (suc number) p closed = closed_set places number p closed

-- ---- a target

module _ (before : List PlaceState) where
  -- each place is kept
  abbrev Kept_in : QueuesState → Type 0
  Kept_in q = (other : ℕ) → KeepsPlace (placed before other) (place_at other q)

  abbrev Kept_of : TargetState → Type 0
  Kept_of t = Kept_in t.queues

  put : (q : QueuesState) (number : ℕ) (p : PlaceState) → Kept_in q → KeepsPlace (place_at number q) p → (other : ℕ)
      → KeepsPlace (placed before other) (placed (set q.places number p) other)
  put q number p kept keeps other = keeps_two _ _ _ (kept other) (keeps_set q.places number other p keeps)

  in_either : (b : Bool) (t u : TargetState) → Kept_of t → Kept_of u → Kept_of (cond b t u)
  in_either true t u first second = first
  in_either false t u first second = second

  in_heard_on : (role : Role) (t : TargetState) → Kept_of t → Kept_of (heard_on role t)
  in_heard_on Unconnected t kept = kept
  in_heard_on (Admin k) t kept = kept
  in_heard_on (Io k queue) t kept = kept
  in_heard_on Ended t kept = kept

  in_heard_at : (number count : ℕ) (t : TargetState) → Kept_of t → Kept_of (heard_at number count t)
  in_heard_at number count t kept =
      in_either (count == 0) t (heard_on (role_at number t.queues.associations) t) kept (in_heard_on (role_at number t.queues.associations) t kept)

  in_answered : (number : ℕ) (entry : List ℕ) (outcome : Outcome) (bytes : List ℕ) (t : TargetState) → Kept_of t
      → Kept_of (answered_with number entry outcome bytes t)
  in_answered number entry outcome bytes t kept =
      put t.queues number _ kept (keeps_answered (identifier_of entry) outcome bytes (place_at number t.queues))

  in_made : (request : ConnectRequest) (answer : Result Connected Outcome) (t : TargetState) → Kept_of t → Kept_of (with_made request answer t)
  in_made request (Ok c) t kept = in_either (c.queue.id == 0) _ _ kept kept
  in_made request (Err outcome) t kept = kept

  in_unconnected : (number : ℕ) (entry : List ℕ) (t : TargetState) → Kept_of t → Kept_of (served_unconnected number entry t)
  in_unconnected number entry t kept =
      let answer = connect_answer_at number (request_in entry) t.subsystem.nqn t.queues in
      in_either (is_connect entry) _ _
      (in_made (request_in entry) answer (with_queues (connected number (identifier_of entry) (request_in entry) t.subsystem.nqn t.queues) t)
      (put t.queues number _ kept (keeps_connect answer (identifier_of entry) (place_at number t.queues))))
      (in_answered number entry _ [] t kept)

  in_fabrics : (number k : ℕ) (entry : List ℕ) (t : TargetState) → Kept_of t → Kept_of (served_fabrics number k entry t)
  in_fabrics number k entry t kept =
      let r = set_by entry (controller_at k t) in
      in_either (slice_index entry 4 == 0x00) _ _
      (in_answered number entry (set_outcome (set_result r)) [] (with_set k (set_state r (controller_at k t)) t) kept)
      (in_either (slice_index entry 4 == 0x04) _ _ (in_answered number entry _ [] t kept)
      (in_either (slice_index entry 4 == 0x01) _ _ (in_answered number entry _ [] t kept) (in_answered number entry _ [] t kept)))

  in_completed_by : (answer : Answer) (number : ℕ) (entry bytes : List ℕ) (q : QueuesState) → Kept_in q → Kept_in (completed_by answer number entry bytes q)
  in_completed_by (Completed outcome) number entry bytes q kept =
      put q number _ kept (keeps_answered (identifier_of entry) outcome bytes (place_at number q))
  in_completed_by Kept number entry bytes q kept = put q number _ kept (keeps_step (gone (place_at number q).connection) (place_at number q))

  in_command : (number k : ℕ) (entry : List ℕ) (t : TargetState) → Kept_of t → Kept_of (served_command number k entry t)
  in_command number k entry t kept =
      let r = response entry t.subsystem t.format (controller_at k t) in
      in_completed_by r.answer number entry r.«data» t.queues kept

  in_as : (role : Role) (number : ℕ) (entry : List ℕ) (t : TargetState) → Kept_of t → Kept_of (served_as role number entry t)
  in_as Unconnected number entry t kept = in_unconnected number entry t kept
  in_as (Admin k) number entry t kept =
      in_either (is_fabrics entry) _ _ (in_fabrics number k entry t kept) (in_command number k entry t kept)
  in_as (Io k queue) number entry t kept =
      in_either (is_fabrics entry) _ _ (in_answered number entry _ [] t kept)
      (in_either (is_for_device number entry t.queues) _ _ kept (in_answered number entry _ [] t kept))
  in_as Ended number entry t kept = kept

  in_served : (execution : Option Execution) (number : ℕ) (t : TargetState) → Kept_of t → Kept_of (served_by execution number t)
  in_served None number t kept = kept
  in_served (Some execution) number t kept = in_as (role_at number t.queues.associations) number execution.entry t kept

  in_executed : (number : ℕ) (entry : List ℕ) (outcome : Outcome) (bytes : List ℕ) (t : TargetState) → Kept_of t
      → Kept_of (executed number entry outcome bytes t)
  in_executed number entry outcome bytes t kept =
      let r = result_of entry outcome bytes in
      put t.queues number _ kept (keeps_executed (identifier_of entry) r.0 r.1 (place_at number t.queues))

  in_completed : (r : Reply) (bytes : List ℕ) (number : ℕ) (entry : List ℕ) (t : TargetState) → Kept_of t
      → Kept_of (device.completed_by r bytes number entry t)
  in_completed (reply.Complete queue completion len) bytes number entry t kept =
      in_executed number entry (outcome_in completion) bytes t kept
  in_completed (reply.Pending run) bytes number entry t kept = kept
  in_completed reply.Idle bytes number entry t kept = kept
  in_completed reply.FaultTaken bytes number entry t kept = kept
  in_completed reply.FaultRefused bytes number entry t kept = kept

  in_ended_with : (command : Option CommandOfRun) (completion : List ℕ) (t : TargetState) → Kept_of t → Kept_of (ended_with command completion t)
  in_ended_with None completion t kept = kept
  in_ended_with (Some p) completion t kept =
      put t.queues p.connection _ kept (keeps_executed p.command (outcome_in completion) [] (place_at p.connection t.queues))

  in_ended : (r : Reply) (command : Option CommandOfRun) (t : TargetState) → Kept_of t → Kept_of (ended_by r command t)
  in_ended (reply.Complete queue completion len) command t kept = in_ended_with command completion t kept
  in_ended (reply.Pending number) command t kept = kept
  in_ended reply.Idle command t kept = kept
  in_ended reply.FaultTaken command t kept = kept
  in_ended reply.FaultRefused command t kept = kept

  -- ---- deeds

  same_as : (new : ServedState) (q : QueuesState) → new.target.queues ≡ q → Kept_in q → Kept_of new.target
  same_as new q is kept = subst Kept_in (sym is) kept

  by_serve : (given : Option Execution) (number : ℕ) (old new : ServedState) → ServesGiven given number old new → Kept_of old.target → Kept_of new.target
  by_serve None number old new done kept =
      same_as new _ (ap (λ (s : ServedState). s.target.queues) done) (in_served (ready_at (place_at number old.target.queues)) number old.target kept)
  by_serve (Some execution) number old new done kept =
      same_as new _ (ap (λ (s : ServedState). s.target.queues) done.rest)
      (in_completed done.reply.reply done.reply.bytes number execution.entry (handed_over number old.target)
      (put old.target.queues number _ kept (keeps_handed (place_at number old.target.queues))))

  by_turn : (run : Option ℕ) (old new : ServedState) → TurnsGiven run old new → Kept_of old.target → Kept_of new.target
  by_turn None old new done kept = same_as new _ (ap (λ (s : ServedState). s.target.queues) done) kept
  by_turn (Some run) old new done kept =
      same_as new _ (ap (λ (s : ServedState). s.target.queues) done.rest)
      (in_ended done.reply.reply (slice_index_or old.pending run None) old.target kept)

  by_resume : (command : Option CommandOfRun) (run : ℕ) (old new : ServedState) → ResumesGiven command run old new → Kept_of old.target → Kept_of new.target
  by_resume None run old new done kept = same_as new _ (ap (λ (s : ServedState). s.target.queues) done.rest) kept
  by_resume (Some command) run old new done kept = same_as new _ (ap (λ (s : ServedState). s.target.queues) done) kept

abbrev places_of : ServedState → List PlaceState
places_of s = s.target.queues.places

itself : (s : ServedState) → Kept_of (places_of s) s.target
itself s = λ other. keeps_same (placed (places_of s) other)

receives : (number : ℕ) (piece : List ℕ) (old new : ServedState) (count : ℕ) → does (Received number piece count) old new → Kept_of (places_of old) new.target
receives number piece old new count done =
    same_as (places_of old) new _ (ap (λ (s : ServedState). s.target.queues) done.1)
    (in_heard_at (places_of old) number (count_of number piece old.target) (with_queues (received_at number piece old.target.queues) old.target)
    (put (places_of old) old.target.queues number _ (itself old) (keeps_received piece (place_at number old.target.queues))))

ticks : (milliseconds : ℕ) (old new : ServedState) → does (Ticked milliseconds) old new → Kept_of (places_of old) new.target
ticks milliseconds old new done =
    same_as (places_of old) new old.target.queues (ap (λ (s : ServedState). s.target.queues) done.1 ∙ ticked_queues milliseconds old.target) (itself old)

serves : (number : ℕ) (old new : ServedState) → does (Served number) old new → Kept_of (places_of old) new.target
serves number old new done = by_serve (places_of old) (given_to_device number old.target.queues) number old new done.1 (itself old)

turns : (old new : ServedState) → does Turned old new → Kept_of (places_of old) new.target
turns old new done = by_turn (places_of old) (next_run old) old new done.1 (itself old)

resumes : (run : ℕ) (old new : ServedState) → does (Resumed run) old new → Kept_of (places_of old) new.target
resumes run old new done = by_resume (places_of old) (slice_index_or old.pending run None) run old new done.1 (itself old)

-- ---- connections that begin, are sent bytes, and end

at_number : (place number : ℕ) (P : Bool → Type 0) → (place ≡ number → P true) → (place ≢ number → P false) → P (place == number)
at_number place number P here there =
    ⊎_elim (λ (is : (place == number ≡ true) × (place ≡ number)). subst P (sym is.0) (here is.1))
    (λ (is : (place == number ≡ false) × (place ≢ number)). subst P (sym is.0) (there is.1)) (eqb_tells place number)

unlike : (place number : ℕ) → place == number ≡ false → place ≢ number
unlike place number is same =
    ⊎_elim (λ (so : (place == number ≡ true) × (place ≡ number)). let e : true ≡ false = sym so.0 ∙ is in cc)
    (λ (so : (place == number ≡ false) × (place ≢ number)). so.1 same) (eqb_tells place number)

opened_to : (number : ℕ) (old new : ServedState) → does (Opened number) old new
    → new.target.queues ≡ with_place number (change.opened (place_at number old.target.queues)) old.target.queues
opened_to number old new done =
    let q : QueuesState = old.target.queues in
    ap (λ (s : ServedState). s.target.queues) done.1 ∙ opened_queues (free_number q) (with_queues (opened_at (free_number q) q) old.target)
    ∙ ap (λ (n : Option ℕ). opened_at n q) done.0

sent_to : (number count : ℕ) (old new : ServedState) → does (Sent number count) old new → new.target.queues ≡ sent_at number count old.target.queues
sent_to number count old new done =
    ap (λ (s : ServedState). s.target.queues) done.1 ∙ taken_queues number count (with_queues (sent_at number count old.target.queues) old.target)

-- the place of another connection
other_place : (number place : ℕ) (p : PlaceState) (old new : ServedState) → places_of new ≡ set (places_of old) number p → place ≢ number
    → placed (places_of new) place ≡ placed (places_of old) place
other_place number place p old new is other =
    ap (λ (l : List PlaceState). placed l place) is ∙ get_or-set_other (places_of old) number place p vacant other

-- ---- what is asked of a target

stays : (deed : Deed) (old new : ServedState) → does deed old new → (place : ℕ) → place < 40
    → is_there place new ≡ there_after place deed (is_there place old)
stays (Opened number) old new done place low =
    let to = ap (λ (q : QueuesState). q.places) (opened_to number old new done) in
    at_number place number (λ b. is_there place new ≡ cond b true (is_there place old))
    (λ here. subst (λ (n : ℕ). is_there n new ≡ true) (sym here)
    (ap (λ (l : List PlaceState). (placed l number).is_open) to
    ∙ ap (λ (p : PlaceState). p.is_open) (get_or-set_same (places_of old) number (change.opened (place_at number old.target.queues)) vacant
    (position-Some is_free (places_of old) number vacant done.0).0)))
    (λ there. ap (λ (p : PlaceState). p.is_open) (other_place number place _ old new to there))
stays (Closed number) old new done place low =
    let to = ap (λ (s : ServedState). places_of s) done.1 in
    at_number place number (λ b. is_there place new ≡ cond b false (is_there place old))
    (λ here. subst (λ (n : ℕ). is_there n new ≡ false) (sym here)
    (ap (λ (l : List PlaceState). (placed l number).is_open) to ∙ closed_set (places_of old) number _ refl))
    (λ there. ap (λ (p : PlaceState). p.is_open) (other_place number place _ old new to there))
stays (Sent number count) old new done place low =
    ap (λ (q : QueuesState). (place_at place q).is_open) (sent_to number count old new done) ∙ open_set (places_of old) number place _ refl
stays (Received number piece count) old new done place low = (receives number piece old new count done place).is_open
stays (Ticked milliseconds) old new done place low = (ticks milliseconds old new done place).is_open
stays (Served number) old new done place low = (serves number old new done place).is_open
stays Turned old new done place low = (turns old new done place).is_open
stays (Resumed run) old new done place low = (resumes run old new done place).is_open

front_same : (place : ℕ) (old new : ServedState) → placed (places_of new) place ≡ placed (places_of old) place
    → IsFrontOf (unsent_on place old) (unsent_on place new)
front_same place old new same = ([], ap (λ (p : PlaceState). p.unsent) same ∙ sym (append-nil (unsent_on place old)))

grows : (deed : Deed) (old new : ServedState) → does deed old new → (place : ℕ) → place < 40 → takes_away place deed ≡ false
    → IsFrontOf (unsent_on place old) (unsent_on place new)
grows (Opened number) old new done place low none =
    front_same place old new
    (other_place number place _ old new (ap (λ (q : QueuesState). q.places) (opened_to number old new done)) (unlike place number none))
grows (Closed number) old new done place low none =
    front_same place old new (other_place number place _ old new (ap (λ (s : ServedState). places_of s) done.1) (unlike place number none))
grows (Sent number count) old new done place low none =
    front_same place old new
    (other_place number place _ old new (ap (λ (q : QueuesState). q.places) (sent_to number count old new done)) (unlike place number none))
grows (Received number piece count) old new done place low none = (receives number piece old new count done place).front
grows (Ticked milliseconds) old new done place low none = (ticks milliseconds old new done place).front
grows (Served number) old new done place low none = (serves number old new done place).front
grows Turned old new done place low none = (turns old new done place).front
grows (Resumed run) old new done place low none = (resumes run old new done place).front

not_open : (o e : Bool) → (not o && e) ≡ true → o ≡ false
not_open true e is = absurd cc
not_open false e is = refl

freed : (s : ServedState) (place : ℕ) → free_of s ≡ Some place → is_there place s ≡ false
freed s place is = not_open _ _ (position-Some is_free (places_of s) place vacant is).1

taken_or_held : (o e far : Bool) → (not o && e) ≡ false → (o || (not e || far)) ≡ true
taken_or_held true e far is = refl
taken_or_held false true far is = absurd cc
taken_or_held false false far is = refl

far_away : (o e : Bool) → (o || (not e || true)) ≡ true
far_away true e = refl
far_away false true = refl
far_away false false = refl

no_less : (b : Bool) (n : ℕ) → cond b (Some n) None ≡ None → b ≡ false
no_less true n is = absurd cc
no_less false n is = refl

none_free : (s : ServedState) → free_of s ≡ None → (place : ℕ) → place < 40 → (is_there place s || is_held place s) ≡ true
none_free s none place low =
    let places = places_of s in
    let p : PlaceState = placed places place in
    let all : length places ≤ position_or_len is_free places = ltb-false (position_or_len is_free places) (length places) (no_less _ _ none) in
    ⊎_elim
    (λ (near : place < length places).
    taken_or_held p.is_open (p.executing == 0) (nat_le (length places) place) (fails_before_first is_free places place vacant (omega (arith, near, all))))
    (λ (far : length places ≤ place).
    let yes : nat_le (length places) place ≡ true = le-leb (length places) place far in
    subst (λ (b : Bool). (p.is_open || (not (p.executing == 0) || b)) ≡ true) (sym yes) (far_away p.is_open (p.executing == 0)))
    (cases_lt place (length places))

pub orderly : TargetsAreOrderly
orderly = record {
  of_file = record { is_there = is_there; stays = stays; grows = grows; is_held = is_held; is_free = freed; none_free = none_free };
  file_there = refl;
  file_held = refl;
  of_memory = record { is_there = is_there; stays = stays; grows = grows; is_held = is_held; is_free = freed; none_free = none_free };
  memory_there = refl;
  memory_held = refl;
}
