-- A command that is ready on a connection stays next there, until the connection is served.
use Rattle.std.proofs.Common.{◌≡◌, ◌≢◌, ℕ, ◌==◌, ◌&&◌, ◌||◌, Bool, true, false, cond, not, List, [], ◌∷◌, ◌++◌, length, Option, None, Some, is_some, refl, sym, ap, subst, ◌∙◌, inl, inr}
use Rattle.std.specs.List.{list_any}
use Rattle.std.specs.Prelude.{slice_index_or}
use Rattle.std.proofs.lemmas.Bool.{and_parts, cases_Bool, eqb-false, eqb-true, or_parts}
use Rattle.std.proofs.lemmas.List.{get_or-set_other, get_or-set_same}
use Rattle.std.proofs.lemmas.List.Quantifiers.{position-Some}
use Rattle.device_events.specs.declared.reply.Reply.{Reply}
use Rattle.device_events.specs.declared.reply.Reply.TheVariants as reply
use Rattle.tcp_connection.specs.declared.queue.Outcome.{Outcome}
use Rattle.tcp_connection.specs.declared.queue.Phase.{Phase}
use Rattle.tcp_connection.specs.declared.queue.Phase.TheVariants.{Initializing, Open, Ended}
use Rattle.tcp_connection.specs.declared.state.ConnectionState.{ConnectionState}
use Rattle.tcp_connection.specs.Commands.{is_running, without}
use Rattle.tcp_connection.specs.Connection.{Step, taken, took}
use Rattle.tcp_connection.specs.Executing.{Execution, completed_in, data_sent, waiting_ready}
use Rattle.tcp_connection.specs.Queue.{is_ended}
use Rattle.tcp_connection.specs.Sending.{answered}
use Rattle.tcp_target.specs.declared.role.Role.{Role}
use Rattle.tcp_target.specs.declared.role.Role.TheVariants as role
use Rattle.tcp_target.specs.Associations.{role_at}
use Rattle.tcp_target.specs.QueueCommands.{given_to_device}
use Rattle.tcp_target.specs.PlaceEvents.{completed_at, executed, returned, sent, stepped}
use Rattle.tcp_target.specs.PlaceEvents as places
use Rattle.tcp_target.specs.Places.{PlaceState, goes_on, is_free, vacant}
use Rattle.tcp_target.specs.Queues.{QueuesState, free_number, opened_at, place_at, received_at, sent_at, with_place}
use Rattle.tcp_target.specs.Commands.{served}
use Rattle.tcp_target.specs.Events.{count_of, heard_at, heard_on}
use Rattle.tcp_target.specs.Events as target
use Rattle.tcp_target.specs.Laws.{ConnectionsStay}
use Rattle.tcp_target.specs.Target.{TargetState, with_queues}
use Rattle.tcp_target.specs.Time.{ticked}
use Rattle.tcp_target.proofs.Order.{ticks, within}
use Rattle.tcp_target.proofs.Ticking.{taken_queues}
use Rattle.tcp_device.specs.Answering.{CommandsAreAnswered, IsMet, IsNext, closes, serves}
use Rattle.tcp_device.specs.Deeds.{AreDone, Closed, Deed, Does, Opened, Received, Resumed, Sent, Served, Ticked, Turned}
use Rattle.tcp_device.specs.Outcome.{outcome_in}
use Rattle.tcp_device.specs.Served.{ResumesGiven, ServesGiven, TurnsGiven, completed_by, ended_by, ended_with, next_run}
use Rattle.tcp_device.specs.State.{CommandOfRun, ServedState}
use Rattle.tcp_device.proofs.Completing.{answers, ends_run as run_ends}
use Rattle.tcp_device.proofs.Placing.{places_stay}

-- ---- at a place

-- what leaves the connection
next_as : (execution : Execution) (p q : PlaceState) → q.is_open ≡ p.is_open → q.connection ≡ p.connection → IsNext execution p → IsNext execution q
next_as execution p q is_open same n = record {
  is_open = is_open ∙ n.is_open;
  alignment = n.alignment;
  initialized = ap (λ (c : ConnectionState). c.phase) same ∙ n.initialized;
  ready = ap (λ (c : ConnectionState). waiting_ready c) same ∙ n.ready;
}

-- while a command is ready nothing is taken
none_taken : (execution : Execution) (c : ConnectionState) (alignment : ℕ) → c.phase ≡ Open alignment → waiting_ready c ≡ Some execution
    → (piece : List ℕ) → (taken c piece).state ≡ c
none_taken execution c alignment initialized ready piece =
    ap (λ (phase : Phase).
    (cond {A = Step} (not (is_ended phase) && not (is_some (cond {A = Option Execution} (is_ended phase) None (waiting_ready c)))) (took c piece)
    (record { state = c; sent = []; count = 0 })).state) initialized
    ∙ ap (λ (o : Option Execution). (cond {A = Step} (not (is_some o)) (took c piece) (record { state = c; sent = []; count = 0 })).state) ready

received_next : (execution : Execution) (piece : List ℕ) (p : PlaceState) → IsNext execution p → IsNext execution (places.received piece p).0
received_next execution piece p n =
    let t = taken p.connection piece in
    elim (goes_on p) as (λ b. IsNext execution (cond {A = PlaceState × ℕ} b (stepped (t.state, t.sent) p, t.count) (p, 0)).0) [
      | true ↦ next_as execution p (stepped (t.state, t.sent) p) refl (none_taken execution p.connection n.alignment n.initialized n.ready piece) n
      | false ↦ n
    ]

-- a completion takes none of those that wait
record LeavesFirst (s t : ConnectionState) : Type 0 where
  phase : t.phase ≡ s.phase
  ready : waiting_ready t ≡ waiting_ready s

leaves_first : (command : ℕ) (outcome : Outcome) (bytes : List ℕ) (s : ConnectionState) (phase : Phase)
    → LeavesFirst s (completed_in phase command outcome bytes s).0
leaves_first command outcome bytes s Initializing = record { phase = refl; ready = refl }
leaves_first command outcome bytes s Ended = record { phase = refl; ready = refl }
leaves_first command outcome bytes s (Open alignment) =
    let a : ConnectionState × List ℕ = answered command outcome (record s { commands = without command s.commands }) in
    elim (is_running command s.commands) as (λ b.
    LeavesFirst s (cond {A = ConnectionState × List ℕ} b (a.0, data_sent alignment command bytes ++ a.1) (s, [])).0) [
      | true ↦ record { phase = refl; ready = refl }
      | false ↦ record { phase = refl; ready = refl }
    ]

executed_next : (execution : Execution) (command : ℕ) (outcome : Outcome) (bytes : List ℕ) (p : PlaceState) → IsNext execution p
    → IsNext execution (executed command outcome bytes p)
executed_next execution command outcome bytes p n =
    let same = leaves_first command outcome bytes p.connection p.connection.phase in
    elim p.is_open as (λ b. IsNext execution (cond b (completed_at command outcome bytes (returned p)) (returned p))) [
      | true ↦ record {
        is_open = n.is_open;
        alignment = n.alignment;
        initialized = same.phase ∙ n.initialized;
        ready = same.ready ∙ n.ready;
      }
      | false ↦ next_as execution p (returned p) refl refl n
    ]

-- ---- of a target

unlike : (number n : ℕ) → (n == number) ≡ false → number ≢ n
unlike number n is same = eqb-false n number is (sym same)

module _ (law : ConnectionsStay) (number : ℕ) (execution : Execution) where
  abbrev Next : TargetState → Type 0
  Next t = IsNext execution (place_at number t.queues)

  as_it_was : (t u : TargetState) → place_at number u.queues ≡ place_at number t.queues → Next t → Next u
  as_it_was t u same n = subst (λ (p : PlaceState). IsNext execution p) (sym same) n

  put_at : (t u : TargetState) (q : PlaceState) → place_at number u.queues ≡ place_at number (with_place number q t.queues) → Next t
      → IsNext execution q → Next u
  put_at t u q is n put =
      subst (λ (p : PlaceState). IsNext execution p)
      (sym (is ∙ get_or-set_same t.queues.places number q vacant (within number t n.is_open))) put

  -- on another connection
  another : (n : ℕ) (t u : TargetState) → ((other : ℕ) → other ≢ n → place_at other u.queues ≡ place_at other t.queues) → (n == number) ≡ false
      → Next t → Next u
  another n t u same is next = as_it_was t u (same number (unlike number n is)) next

  heard_same : (u : TargetState) (kind : Role) → place_at number (heard_on kind u).queues ≡ place_at number u.queues
  heard_same u role.Unconnected = refl
  heard_same u (role.Admin id) = refl
  heard_same u (role.Io id queue) = refl
  heard_same u role.Ended = refl

  heard_at_same : (n count : ℕ) (u : TargetState) → place_at number (heard_at n count u).queues ≡ place_at number u.queues
  heard_at_same n count u =
      elim (count == 0) as (λ b. place_at number (cond b u (heard_on (role_at n u.queues.associations) u)).queues ≡ place_at number u.queues) [
        | true ↦ refl
        | false ↦ heard_same u (role_at n u.queues.associations)
      ]

  receives : (n : ℕ) (piece : List ℕ) (t : TargetState) → Next t → (b : Bool) → (n == number) ≡ b → Next (target.received n piece t)
  receives n piece t next false is = another n t (target.received n piece t) (law.receives n piece t) is next
  receives n piece t next true is =
      subst (λ (m : ℕ). Next (target.received m piece t)) (sym (eqb-true n number is))
      (put_at t (target.received number piece t) (places.received piece (place_at number t.queues)).0
      (heard_at_same number (count_of number piece t) (with_queues (received_at number piece t.queues) t)) next
      (received_next execution piece (place_at number t.queues) next))

  sends : (n count : ℕ) (t : TargetState) → Next t → (b : Bool) → (n == number) ≡ b → Next (target.sent n count t)
  sends n count t next false is = another n t (target.sent n count t) (law.sends n count t) is next
  sends n count t next true is =
      let p : PlaceState = place_at number t.queues in
      subst (λ (m : ℕ). Next (target.sent m count t)) (sym (eqb-true n number is))
      (put_at t (target.sent number count t) (sent count p)
      (ap (λ (q : QueuesState). place_at number q) (taken_queues number count (with_queues (sent_at number count t.queues) t))) next
      (next_as execution p (sent count p) refl refl next))

  ends_run : (n command : ℕ) (outcome : Outcome) (t : TargetState) → Next t → (b : Bool) → (n == number) ≡ b
      → Next (target.run_ended n command outcome t)
  ends_run n command outcome t next false is = another n t (target.run_ended n command outcome t) (law.ends_run n command outcome t) is next
  ends_run n command outcome t next true is =
      subst (λ (m : ℕ). Next (target.run_ended m command outcome t)) (sym (eqb-true n number is))
      (put_at t (target.run_ended number command outcome t) (executed command outcome [] (place_at number t.queues)) refl next
      (executed_next execution command outcome [] (place_at number t.queues) next))

  -- a number that a host has is not free
  opens : (n : Option ℕ) (t : TargetState) → free_number t.queues ≡ n → Next t
      → Next (target.opened_as n (with_queues (opened_at n t.queues) t))
  opens None t is next = next
  opens (Some n) t is next =
      let free : is_free (place_at n t.queues) ≡ true = (position-Some is_free t.queues.places n vacant is).1 in
      let u : TargetState = target.opened_as (Some n) (with_queues (opened_at (Some n) t.queues) t) in
      elim (n == number) as (λ b. (n == number) ≡ b → Next u) [
        | true ↦ (λ same.
            let shut : not (place_at number t.queues).is_open ≡ true =
            (and_parts (not (place_at number t.queues).is_open) ((place_at number t.queues).executing == 0)
            (subst (λ (m : ℕ). is_free (place_at m t.queues) ≡ true) (eqb-true n number same) free)).0 in
            let held : (place_at number t.queues).is_open ≡ true = next.is_open in
            absurd cc)
        | false ↦ (λ other. as_it_was t u (get_or-set_other t.queues.places n number _ vacant (unlike number n other)) next)
      ] refl

  -- another connection is served
  completes : (n : ℕ) (entry bytes : List ℕ) (r : Reply) (t : TargetState) → (n == number) ≡ false → Next t → Next (completed_by r bytes n entry t)
  completes n entry bytes (reply.Complete queue completion length) t is next =
      another n t (target.executed n entry (outcome_in completion) bytes t) (law.executes n entry (outcome_in completion) bytes t) is next
  completes n entry bytes (reply.Pending run) t is next = next
  completes n entry bytes reply.Idle t is next = next
  completes n entry bytes reply.FaultTaken t is next = next
  completes n entry bytes reply.FaultRefused t is next = next

  ends_with : (command : Option CommandOfRun) (completion : List ℕ) (t : TargetState) → Next t → Next (ended_with command completion t)
  ends_with None completion t next = next
  ends_with (Some p) completion t next = ends_run p.connection p.command (outcome_in completion) t next (p.connection == number) refl

  ends : (r : Reply) (command : Option CommandOfRun) (t : TargetState) → Next t → Next (ended_by r command t)
  ends (reply.Complete queue completion length) command t next = ends_with command completion t next
  ends (reply.Pending run) command t next = next
  ends reply.Idle command t next = next
  ends reply.FaultTaken command t next = next
  ends reply.FaultRefused command t next = next

  -- ---- deeds

  module _ (old new : ServedState) where
    by : (u : TargetState) → new.target ≡ u → Next u → Next new.target
    by u is next = subst (λ (t : TargetState). Next t) (sym is) next

    serves_other : (n : ℕ) → (n == number) ≡ false → (given : Option Execution) → ServesGiven given n old new → Next old.target → Next new.target
    serves_other n is None done next =
        by _ (ap (λ (s : ServedState). s.target) done) (another n old.target (served n old.target) (law.serves n old.target) is next)
    serves_other n is (Some given) done next =
        by _ (ap (λ (s : ServedState). s.target) done.rest)
        (completes n given.entry done.reply.bytes done.reply.reply (target.handed_over n old.target) is
        (another n old.target (target.handed_over n old.target) (law.hands_over n old.target) is next))

    turns : (run : Option ℕ) → TurnsGiven run old new → Next old.target → Next new.target
    turns None done next = by _ (ap (λ (s : ServedState). s.target) done) next
    turns (Some run) done next = by _ (ap (λ (s : ServedState). s.target) done.rest) (ends done.reply.reply _ old.target next)

    resumes : (command : Option CommandOfRun) (run : ℕ) → ResumesGiven command run old new → Next old.target → Next new.target
    resumes None run done next = by _ (ap (λ (s : ServedState). s.target) done.rest) next
    resumes (Some command) run done next = by _ (ap (λ (s : ServedState). s.target) done) next

    pub stays : (deed : Deed) → Does deed old new → serves number deed ≡ false → closes number deed ≡ false → Next old.target → Next new.target
    stays Opened done not_served not_closed next =
        by _ (ap (λ (s : ServedState). s.target) done) (opens (free_number old.target.queues) old.target refl next)
    stays (Received n piece) done not_served not_closed next =
        by _ (ap (λ (s : ServedState). s.target) done) (receives n piece old.target next (n == number) refl)
    stays (Sent n count) done not_served not_closed next =
        by _ (ap (λ (s : ServedState). s.target) done) (sends n count old.target next (n == number) refl)
    stays (Closed n) done not_served not_closed next =
        by _ (ap (λ (s : ServedState). s.target) done)
        (another n old.target (target.closed n old.target) (law.closes n old.target) not_closed next)
    stays (Ticked milliseconds) done not_served not_closed next =
        by _ (ap (λ (s : ServedState). s.target) done)
        (as_it_was old.target (ticked milliseconds old.target) (ticks number milliseconds old.target) next)
    stays (Served n) done not_served not_closed next = serves_other n not_served (given_to_device n old.target.queues) done next
    stays Turned done not_served not_closed next = turns (next_run old) done next
    stays (Resumed run) done not_served not_closed next = resumes (slice_index_or old.pending run None) run done next

  pub all_stay : (deeds : List Deed) (old new : ServedState) → AreDone deeds old new → list_any (serves number) deeds ≡ false
      → list_any (closes number) deeds ≡ false → Next old.target → Next new.target
  all_stay [] old new done not_served not_closed next = by old new old.target (ap (λ (s : ServedState). s.target) done) next
  all_stay (deed ∷ deeds) old new done not_served not_closed next =
      let served_parts = or_parts (serves number deed) (list_any (serves number) deeds) not_served in
      let closed_parts = or_parts (closes number deed) (list_any (closes number) deeds) not_closed in
      stays done.between new deed done.last served_parts.0 closed_parts.0
      (all_stay deeds old done.between done.first served_parts.1 closed_parts.1 next)

  -- ---- the first service

  pub is_service : (deed : Deed) → serves number deed ≡ true → deed ≡ Served number
  is_service Opened is = absurd cc
  is_service (Received n piece) is = absurd cc
  is_service (Sent n count) is = absurd cc
  is_service (Closed n) is = absurd cc
  is_service (Ticked milliseconds) is = absurd cc
  is_service (Served n) is = ap (λ (m : ℕ). Served m) (eqb-true n number is)
  is_service Turned is = absurd cc
  is_service (Resumed run) is = absurd cc

  first_of : (a b : Bool) → (a || b) ≡ true → b ≡ false → a ≡ true
  first_of true b one none = refl
  first_of false b one none = absurd cc

  pub meets : (deeds : List Deed) (old new : ServedState) → AreDone deeds old new → list_any (serves number) deeds ≡ true
      → list_any (closes number) deeds ≡ false → Next old.target → IsMet number execution deeds old new
  meets [] old new done some not_closed next = absurd cc
  meets (deed ∷ deeds) old new done some not_closed next =
      let closed_parts = or_parts (closes number deed) (list_any (closes number) deeds) not_closed in
      elim (cases_Bool (list_any (serves number) deeds)) [
        | inl before ↦
            (let m = meets deeds old done.between done.first before closed_parts.1 next in
            record {
              earlier = m.earlier;
              later = deed ∷ m.later;
              before = m.before;
              after = m.after;
              parts = ap (λ (all : List Deed). deed ∷ all) m.parts;
              first = m.first;
              led = m.led;
              next = m.next;
              served = m.served;
              leads = record { between = done.between; first = m.leads; last = done.last };
            })
        | inr none ↦
            (let is : deed ≡ Served number = is_service deed (first_of (serves number deed) (list_any (serves number) deeds) some none) in
            record {
              earlier = deeds;
              later = [];
              before = done.between;
              after = new;
              parts = ap (λ (last : Deed). last ∷ deeds) is;
              first = none;
              led = done.first;
              next = all_stay deeds old done.between done.first none closed_parts.1 next;
              served = subst (λ (last : Deed). Does last done.between new) is done.last;
              leads = refl;
            })
      ]

pub commands_are_answered : ConnectionsStay → CommandsAreAnswered
commands_are_answered law = record {
  stays = λ number execution deed old new done not_served not_closed next.
      stays law number execution old new deed done not_served not_closed next;
  meets = λ number execution deeds old new done some not_closed next. meets law number execution deeds old new done some not_closed next;
  answers = λ number execution old new places next ready done. answers number execution old new next places ready done;
  ends = λ c old new awaited done. run_ends c old new awaited done;
  begin_places = λ device subsystem format places. places;
  stay_places = places_stay;
}
