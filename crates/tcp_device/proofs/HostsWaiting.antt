-- For how long a host is waited for.
use Rattle.std.proofs.Common.{◌≡◌, ◌≢◌, ◌≤◌, ◌<◌, ◌+◌, ℕ, zero, suc, ◌==◌, Bool, true, false, cond, List, [], ◌∷◌, length, map, set, Option, None, Some, Result, Ok, Err, refl, sym, ap, subst, ◌∙◌, arith}
use Rattle.std.specs.Prelude.{slice_index_or, slice_index}
use Rattle.std.proofs.lemmas.Bool.{eqb-true, leb-true}
use Rattle.std.proofs.lemmas.List.{get_or-set_same}
use Rattle.device_events.specs.declared.reply.Reply.{Reply}
use Rattle.device_events.specs.declared.reply.Reply.TheVariants as reply
use Rattle.tcp_admin.specs.Properties as properties
use Rattle.tcp_target.specs.declared.connected.Connected.{Connected}
use Rattle.tcp_target.specs.declared.connect_request.ConnectRequest.{ConnectRequest}
use Rattle.tcp_target.specs.declared.role.Role.{Role}
use Rattle.tcp_target.specs.declared.role.Role.TheVariants.{Unconnected, Admin, Io, Ended}
use Rattle.tcp_target.specs.Associations.{role_at}
use Rattle.tcp_target.specs.ConnectRequest.{request_in}
use Rattle.tcp_connection.specs.declared.queue.Outcome.{Outcome}
use Rattle.tcp_connection.specs.Executing.{Execution}
use Rattle.tcp_pdus.specs.Direction.{identifier_of}
use Rattle.tcp_target.specs.QueueCommands.{connect_answer_at, connected, given_to_device, is_fabrics, is_for_device}
use Rattle.tcp_target.specs.Places.{ready_at}
use Rattle.tcp_target.specs.Queues.{QueuesState, free_number, place_at}
use Rattle.tcp_target.specs.Clocks.{is_past, later, later_controller, started_controller}
use Rattle.tcp_target.specs.Commands.{is_connect, served_as, served_by, served_fabrics, served_unconnected, with_made}
use Rattle.tcp_target.specs.Counted.{TimeIsCounted}
use Rattle.tcp_target.specs.Events.{count_of, heard_at, heard_on, opened_as}
use Rattle.tcp_target.specs.Target.{TargetState, controller_at, controller_clock_at, heard, heard_on_io, with_controller, with_queues}
use Rattle.tcp_target.specs.Time.{is_lost, patience_of}
use Rattle.tcp_target.specs.declared.clocks.ControllerClock.{ControllerClock}
use Rattle.tcp_device.specs.Deeds.{AreDone, Closed, Deed, Does, Opened, Received, Resumed, Sent, Served, Ticked, Turned}
use Rattle.tcp_device.specs.Served.{ResumesGiven, ServesGiven, TurnsGiven, completed_by, ended_by, ended_with, next_run}
use Rattle.tcp_device.specs.State.{CommandOfRun, ServedState}
use Rattle.tcp_device.specs.HostsWaiting.{CountsAtMost, HostsAreWaitedFor, Within, clock_of, limit_of, ticks, ticks_of}

-- ---- a clock

none_counts : (n : ℕ) → CountsAtMost n started_controller
none_counts n = record { admin = tt; queues = tt }

within_later : (n milliseconds : ℕ) (clock : Option ℕ) → Within n clock → Within (n + milliseconds) (later milliseconds clock)
within_later n milliseconds None within = omega arith
within_later n milliseconds (Some counted) within = omega (arith, within)

past_within : (limit n : ℕ) (clock : Option ℕ) → Within n clock → is_past limit clock ≡ true → limit ≤ n
past_within limit n None within past = absurd cc
past_within limit n (Some counted) within past = let less = leb-true limit counted past in omega (arith, less, within)

-- ---- the clocks of controllers

-- the clock of a controller, of those of all
abbrev clock_in : List ControllerClock → ℕ → ControllerClock
clock_in clocks id = slice_index_or clocks id started_controller

module _ (n : ℕ) where
  abbrev Counts : List ControllerClock → ℕ → Type 0
  Counts clocks id = CountsAtMost n (clock_in clocks id)

  started_anew : (clocks : List ControllerClock) (k id : ℕ) → Counts clocks id → Counts (set clocks k started_controller) id
  started_anew [] k id counts = counts
  started_anew (c ∷ clocks) zero zero counts = none_counts n
  started_anew (c ∷ clocks) zero (suc id) counts = counts
  started_anew (c ∷ clocks) (suc k) zero counts = counts
  started_anew (c ∷ clocks) (suc k) (suc id) counts = started_anew clocks k id counts

  started_on_io : (clocks : List ControllerClock) (k id : ℕ) → Counts clocks id
      → Counts (set clocks k (let clock = clock_in clocks k in record clock { queues = None })) id
  started_on_io [] k id counts = counts
  started_on_io (c ∷ clocks) zero zero counts = record { admin = counts.admin; queues = tt }
  started_on_io (c ∷ clocks) zero (suc id) counts = counts
  started_on_io (c ∷ clocks) (suc k) zero counts = counts
  started_on_io (c ∷ clocks) (suc k) (suc id) counts = started_on_io clocks k id counts

  counted_later : (milliseconds : ℕ) (clocks : List ControllerClock) (id : ℕ) → Counts clocks id
      → CountsAtMost (n + milliseconds) (clock_in (map (λ clock. later_controller milliseconds clock) clocks) id)
  counted_later milliseconds [] id counts = none_counts (n + milliseconds)
  counted_later milliseconds (c ∷ clocks) zero counts = record {
    admin = within_later n milliseconds c.admin counts.admin;
    queues = within_later n milliseconds c.queues counts.queues;
  }
  counted_later milliseconds (c ∷ clocks) (suc id) counts = counted_later milliseconds clocks id counts

  -- ---- a target

  module _ (id : ℕ) where
    abbrev CountsIn : TargetState → Type 0
    CountsIn t = Counts t.controller_clocks id

    in_either : (b : Bool) (t u : TargetState) → CountsIn t → CountsIn u → CountsIn (cond b t u)
    in_either true t u first second = first
    in_either false t u first second = second

    in_opened : (number : Option ℕ) (t : TargetState) → CountsIn t → CountsIn (opened_as number t)
    in_opened None t counts = counts
    in_opened (Some number) t counts = counts

    in_heard_on : (role : Role) (t : TargetState) → CountsIn t → CountsIn (heard_on role t)
    in_heard_on Unconnected t counts = counts
    in_heard_on (Admin k) t counts = started_anew t.controller_clocks k id counts
    in_heard_on (Io k queue) t counts = started_on_io t.controller_clocks k id counts
    in_heard_on Ended t counts = counts

    in_heard_at : (number count : ℕ) (t : TargetState) → CountsIn t → CountsIn (heard_at number count t)
    in_heard_at number count t counts =
        in_either (count == 0) t (heard_on (role_at number t.queues.associations) t) counts (in_heard_on (role_at number t.queues.associations) t counts)

    in_made : (request : ConnectRequest) (answer : Result Connected Outcome) (t : TargetState) → CountsIn t → CountsIn (with_made request answer t)
    in_made request (Ok c) t counts =
        in_either (c.queue.id == 0) (heard c.controller (with_controller c.controller (properties.begun c.controller request.keep_alive_timeout) t))
        (heard_on_io c.controller t) (started_anew t.controller_clocks c.controller id counts) (started_on_io t.controller_clocks c.controller id counts)
    in_made request (Err outcome) t counts = counts

    in_unconnected : (number : ℕ) (entry : List ℕ) (t : TargetState) → CountsIn t → CountsIn (served_unconnected number entry t)
    in_unconnected number entry t counts =
        in_either (is_connect entry) _ _
        (in_made (request_in entry) (connect_answer_at number (request_in entry) t.subsystem.nqn t.queues)
        (with_queues (connected number (identifier_of entry) (request_in entry) t.subsystem.nqn t.queues) t) counts) counts

    in_fabrics : (number k : ℕ) (entry : List ℕ) (t : TargetState) → CountsIn t → CountsIn (served_fabrics number k entry t)
    in_fabrics number k entry t counts =
        in_either (slice_index entry 4 == 0x00) _ _ counts
        (in_either (slice_index entry 4 == 0x04) _ _ counts (in_either (slice_index entry 4 == 0x01) _ _ counts counts))

    in_as : (role : Role) (number : ℕ) (entry : List ℕ) (t : TargetState) → CountsIn t → CountsIn (served_as role number entry t)
    in_as Unconnected number entry t counts = in_unconnected number entry t counts
    in_as (Admin k) number entry t counts =
        in_either (is_fabrics entry) _ _ (in_fabrics number k entry t counts) (started_anew t.controller_clocks k id counts)
    in_as (Io k queue) number entry t counts =
        in_either (is_fabrics entry) _ _ counts (in_either (is_for_device number entry t.queues) _ _ counts counts)
    in_as Ended number entry t counts = counts

    in_served : (execution : Option Execution) (number : ℕ) (t : TargetState) → CountsIn t → CountsIn (served_by execution number t)
    in_served None number t counts = counts
    in_served (Some execution) number t counts = in_as (role_at number t.queues.associations) number execution.entry t counts

    in_completed : (r : Reply) (bytes : List ℕ) (number : ℕ) (entry : List ℕ) (t : TargetState) → CountsIn t → CountsIn (completed_by r bytes number entry t)
    in_completed (reply.Complete queue completion length) bytes number entry t counts = counts
    in_completed (reply.Pending run) bytes number entry t counts = counts
    in_completed reply.Idle bytes number entry t counts = counts
    in_completed reply.FaultTaken bytes number entry t counts = counts
    in_completed reply.FaultRefused bytes number entry t counts = counts

    in_ended_with : (command : Option CommandOfRun) (completion : List ℕ) (t : TargetState) → CountsIn t → CountsIn (ended_with command completion t)
    in_ended_with None completion t counts = counts
    in_ended_with (Some p) completion t counts = counts

    in_ended : (r : Reply) (command : Option CommandOfRun) (t : TargetState) → CountsIn t → CountsIn (ended_by r command t)
    in_ended (reply.Complete queue completion length) command t counts = in_ended_with command completion t counts
    in_ended (reply.Pending number) command t counts = counts
    in_ended reply.Idle command t counts = counts
    in_ended reply.FaultTaken command t counts = counts
    in_ended reply.FaultRefused command t counts = counts

    -- ---- deeds

    at : (s new : ServedState) (t : TargetState) → new.target ≡ t → CountsIn t → CountsIn new.target
    at s new t is counts = subst CountsIn (sym is) counts

    by_serve : (given : Option Execution) (number : ℕ) (old new : ServedState) → ServesGiven given number old new → CountsIn old.target → CountsIn new.target
    by_serve None number old new done counts =
        at old new _ (ap (λ (s : ServedState). s.target) done) (in_served (ready_at (place_at number old.target.queues)) number old.target counts)
    by_serve (Some execution) number old new done counts =
        at old new _ (ap (λ (s : ServedState). s.target) done.rest) (in_completed done.reply.reply done.reply.bytes number execution.entry _ counts)

    by_turn : (run : Option ℕ) (old new : ServedState) → TurnsGiven run old new → CountsIn old.target → CountsIn new.target
    by_turn None old new done counts = at old new old.target (ap (λ (s : ServedState). s.target) done) counts
    by_turn (Some run) old new done counts =
        at old new _ (ap (λ (s : ServedState). s.target) done.rest) (in_ended done.reply.reply (slice_index_or old.pending run None) old.target counts)

    by_resume : (command : Option CommandOfRun) (run : ℕ) (old new : ServedState) → ResumesGiven command run old new → CountsIn old.target → CountsIn new.target
    by_resume None run old new done counts = at old new old.target (ap (λ (s : ServedState). s.target) done.rest) counts
    by_resume (Some command) run old new done counts = at old new old.target (ap (λ (s : ServedState). s.target) done) counts

module _ (time : TimeIsCounted) (id : ℕ) where
  more : (n : ℕ) (clock : ControllerClock) → CountsAtMost n clock → CountsAtMost (n + 0) clock
  more n clock counts = subst (λ (m : ℕ). CountsAtMost m clock) (omega arith) counts

  counts_on : (n : ℕ) (deed : Deed) (old new : ServedState) → Does deed old new → CountsAtMost n (clock_of id old) → CountsAtMost (n + ticks_of deed) (clock_of id new)
  counts_on n Opened old new done counts =
      more n _ (at n id old new _ (ap (λ (s : ServedState). s.target) done) (in_opened n id (free_number old.target.queues) _ counts))
  counts_on n (Received number piece) old new done counts =
      more n _ (at n id old new _ (ap (λ (s : ServedState). s.target) done) (in_heard_at n id number (count_of number piece old.target) _ counts))
  counts_on n (Sent number count) old new done counts =
      more n _ (at n id old new _ (ap (λ (s : ServedState). s.target) done) (in_either n id (count == 0) _ _ counts counts))
  counts_on n (Closed number) old new done counts = more n _ (at n id old new _ (ap (λ (s : ServedState). s.target) done) counts)
  counts_on n (Ticked milliseconds) old new done counts =
      subst (λ (clocks : List ControllerClock). CountsAtMost (n + milliseconds) (clock_in clocks id))
      (sym (ap (λ (s : ServedState). s.target.controller_clocks) done ∙ time.controllers milliseconds old.target))
      (counted_later n milliseconds old.target.controller_clocks id counts)
  counts_on n (Served number) old new done counts = more n _ (by_serve n id (given_to_device number old.target.queues) number old new done counts)
  counts_on n Turned old new done counts = more n _ (by_turn n id (next_run old) old new done counts)
  counts_on n (Resumed run) old new done counts = more n _ (by_resume n id (slice_index_or old.pending run None) run old new done counts)

  counts_all : (deeds : List Deed) (old new : ServedState) → AreDone deeds old new → clock_of id old ≡ started_controller → CountsAtMost (ticks deeds) (clock_of id new)
  counts_all [] old new done started =
      subst (λ (clock : ControllerClock). CountsAtMost 0 clock) (sym (ap (λ (s : ServedState). clock_of id s) done ∙ started)) (none_counts 0)
  counts_all (deed ∷ deeds) old new done started = counts_on (ticks deeds) deed done.between new done.last (counts_all deeds old done.between done.first started)

  lost_by : (b : Bool) (limit n : ℕ) (clock : ControllerClock) → CountsAtMost n clock
      → cond b (is_past 600000 clock.queues) (is_past limit clock.admin) ≡ true → cond b 600000 limit ≤ n
  lost_by true limit n clock counts past = past_within 600000 n clock.queues counts.queues past
  lost_by false limit n clock counts past = past_within limit n clock.admin counts.admin past

  lost : (deeds : List Deed) (old new : ServedState) → AreDone deeds old new → clock_of id old ≡ started_controller
      → is_lost id new.target ≡ true → limit_of (controller_at id new.target) ≤ ticks deeds
  lost deeds old new done started is =
      lost_by ((controller_at id new.target).keep_alive == 0) (patience_of (controller_at id new.target)) (ticks deeds) (clock_of id new)
      (counts_all deeds old new done started) is

heard_by : (role : Role) (id : ℕ) (t : TargetState) → role ≡ Admin id → id < length t.controller_clocks
    → controller_clock_at id (heard_on role t) ≡ started_controller
heard_by Unconnected id t is within = absurd cc
heard_by (Admin k) id t is within =
    let same : k ≡ id = cc in
    subst (λ (m : ℕ). controller_clock_at id (heard m t) ≡ started_controller) (sym same)
    (get_or-set_same t.controller_clocks id started_controller started_controller within)
heard_by (Io k queue) id t is within = absurd cc
heard_by Ended id t is within = absurd cc

queues_same : (role : Role) (t : TargetState) → (heard_on role t).queues ≡ t.queues
queues_same Unconnected t = refl
queues_same (Admin k) t = refl
queues_same (Io k queue) t = refl
queues_same Ended t = refl

heard_one : (number id count : ℕ) (t new : TargetState) → new ≡ heard_at number count t → role_at number new.queues.associations ≡ Admin id
    → count ≢ 0 → id < length t.controller_clocks → controller_clock_at id new ≡ started_controller
heard_one number id count t new done is taken within =
    let role : Role = role_at number t.queues.associations in
    elim (count == 0) as (λ b. (count == 0) ≡ b → new ≡ cond b t (heard_on role t) → controller_clock_at id new ≡ started_controller) [
      | true ↦ λ none so. absurd (taken (eqb-true count 0 none))
      | false ↦ λ some so.
          subst (λ (u : TargetState). controller_clock_at id u ≡ started_controller) (sym so)
          (heard_by role id t
          (sym (ap (λ (u : TargetState). role_at number u.queues.associations) so ∙ ap (λ (q : QueuesState). role_at number q.associations) (queues_same role t)) ∙ is)
          within)
    ] refl done

pub waited_for : TimeIsCounted → HostsAreWaitedFor
waited_for time = record {
  heard = λ number id piece old new done is taken within.
      heard_one number id (count_of number piece old.target) _ new.target (ap (λ (s : ServedState). s.target) done) is taken within;
  lost = λ id deeds old new done started is. lost time id deeds old new done started is;
}
