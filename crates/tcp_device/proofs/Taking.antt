-- In every state of a target each connection takes bytes that come, and a command that is ready is the next of its connection.
use Rattle.std.proofs.Common.{◌≡◌, ℕ, ◌<◌, ◌≤◌, ◌-◌, ◌==◌, ◌&&◌, Bool, true, false, cond, not, nat_le, nat_lt, List, [], ◌∷◌, ◌++◌, length, replicate, Option, None, Some, is_some, refl, sym, ap, subst, ◌∙◌, inl, inr, arith}
use Rattle.std.specs.Prelude.{slice_index_or}
use Rattle.std.proofs.lemmas.Bool.{and_parts, cases_lt, eqb-false, eqb-true}
use Rattle.std.proofs.lemmas.List.{get_or-replicate, get_or-set_other, get_or_past}
use Rattle.tcp_pdus.specs.Direction.{identifier_of}
use Rattle.tcp_connection.specs.Reading.{reading}
use Rattle.tcp_connection.specs.Receiving as receiving
use Rattle.tcp_connection.specs.declared.expected.Progress.{Progress}
use Rattle.tcp_connection.specs.declared.queue.Outcome.{Outcome}
use Rattle.tcp_connection.specs.declared.queue.Phase.{Phase}
use Rattle.tcp_connection.specs.declared.queue.Phase.TheVariants.{Initializing, Open, Ended}
use Rattle.tcp_connection.specs.declared.queue.Queue.{Queue}
use Rattle.tcp_connection.specs.declared.state.ConnectionState.{ConnectionState}
use Rattle.tcp_connection.specs.Connection.{Step, taken, takes, took}
use Rattle.tcp_connection.specs.Executing.{Execution, ready, waiting_ready}
use Rattle.tcp_connection.specs.Queue.{is_ended}
use Rattle.tcp_target.specs.Associations.{role_at}
use Rattle.tcp_target.specs.declared.role.Role.{Role}
use Rattle.tcp_target.specs.declared.role.Role.TheVariants as role
use Rattle.tcp_target.specs.QueueCommands.{result_of}
use Rattle.tcp_target.specs.PlaceEvents.{answered_at, closed, completed_at, connected_at, executed, handed_over, kept, opened, returned, stepped}
use Rattle.tcp_target.specs.PlaceEvents as places
use Rattle.tcp_target.specs.Places.{PlaceState, goes_on, ready_at, vacant}
use Rattle.tcp_target.specs.Queues.{QueuesState, free_number, no_queues, opened_at, place_at, received_at, sent_at, with_place}
use Rattle.tcp_target.specs.Commands.{served_as, served_by}
use Rattle.tcp_target.specs.Events.{count_of, heard_at, heard_on}
use Rattle.tcp_target.specs.Events as target
use Rattle.tcp_target.specs.Target.{TargetState, with_queues}
use Rattle.tcp_target.proofs.Fine.{here}
use Rattle.tcp_target.proofs.Ticking.{opened_queues, taken_queues, ticked_queues}
use Rattle.tcp_target.specs.Ends.{is_cut_off}
use Rattle.tcp_device.specs.Answering.{IsNext}
use Rattle.tcp_device.specs.Order.{place_of}
use Rattle.tcp_device.specs.State.{begun_on}
use Rattle.tcp_device.specs.Taking.{BytesAreAlwaysTaken}
use Rattle.tcp_device.proofs.Reached.{Stays, reached}
use Rattle.tcp_device.proofs.Readings.{grows}
use Rattle.tcp_device.proofs.Serving.{serves_as}
use Rattle.tcp_device.proofs.Standing.{Stands, between, comes_stands, completes_stands, connects_stands, goes_stands, not_begins, reads_of}

abbrev pub AllStand : QueuesState → Type 0
AllStand q = (number : ℕ) → Stands (place_at number q).connection

-- ---- one place is another

all_put : (n : ℕ) (p : PlaceState) (q r : QueuesState) → r.places ≡ (with_place n p q).places → AllStand q → Stands p.connection → AllStand r
all_put n p q r is all put number =
    elim (number == n) as (λ b. (number == n) ≡ b → Stands (place_at number r).connection) [
      | true ↦ (λ same.
          subst (λ (m : ℕ). Stands (place_at m r).connection) (sym (eqb-true number n same))
          (here n p q r is (λ it. Stands it.connection) put (all n)))
      | false ↦ (λ other.
          subst (λ (it : PlaceState). Stands it.connection)
          (sym (ap (λ (those : List PlaceState). slice_index_or those number vacant) is
          ∙ get_or-set_other q.places n number p vacant (eqb-false number n other)))
          (all number))
    ] refl

-- ---- a command that is ready

-- the connection has it, and hasn't ended
pub record IsThere (execution : Execution) (p : PlaceState) : Type 0 where
  pub goes : goes_on p ≡ true
  pub on : is_ended p.connection.phase ≡ false
  pub ready : waiting_ready p.connection ≡ Some execution

not_ended : (b : Bool) (o : Option Execution) (execution : Execution) → cond b None o ≡ Some execution → (b ≡ false) × (o ≡ Some execution)
not_ended true o execution is = absurd cc
not_ended false o execution is = (refl, is)

goes_by : (b : Bool) (o : Option Execution) (execution : Execution) → cond b o None ≡ Some execution → (b ≡ true) × (o ≡ Some execution)
goes_by true o execution is = (refl, is)
goes_by false o execution is = absurd cc

there : (execution : Execution) (p : PlaceState) → ready_at p ≡ Some execution → IsThere execution p
there execution p is =
    let goes = goes_by (goes_on p) (ready p.connection) execution is in
    let ends = not_ended (is_ended p.connection.phase) (waiting_ready p.connection) execution goes.1 in
    record { goes = goes.0; on = ends.0; ready = ends.1 }

module _ (number : ℕ) (execution : Execution) (t : TargetState) (all : AllStand t.queues) (is : ready_at (place_at number t.queues) ≡ Some execution) where
  abbrev p : PlaceState
  p = place_at number t.queues

  abbrev entry : List ℕ
  entry = execution.entry

  it : IsThere execution p
  it = there execution p is

  goes : Stands (kept p).connection
  goes = goes_stands p.connection execution it.on it.ready (all number)

  answers : (outcome : Outcome) (bytes : List ℕ) (r : QueuesState)
      → r.places ≡ (with_place number (answered_at (identifier_of entry) outcome bytes p) t.queues).places → AllStand r
  answers outcome bytes r same =
      all_put number (answered_at (identifier_of entry) outcome bytes p) t.queues r same all
      (completes_stands (identifier_of entry) outcome bytes (kept p).connection goes)

  connects : (queue : Queue) (in_capsule : ℕ) (outcome : Outcome) (r : QueuesState)
      → r.places ≡ (with_place number (connected_at queue in_capsule (identifier_of entry) outcome p) t.queues).places → AllStand r
  connects queue in_capsule outcome r same =
      all_put number (connected_at queue in_capsule (identifier_of entry) outcome p) t.queues r same all
      (completes_stands (identifier_of entry) outcome [] (places.joined queue in_capsule (kept p)).connection
      (connects_stands p.connection execution it.on it.ready queue in_capsule (all number)))

  keeps : (r : QueuesState) → r.places ≡ (with_place number (kept p) t.queues).places → AllStand r
  keeps r same = all_put number (kept p) t.queues r same all goes

  serves_one : AllStand (served_as (role_at number t.queues.associations) number entry t).queues
  serves_one = serves_as AllStand number entry t all (λ outcome bytes r given is. answers outcome bytes r is) connects keeps (role_at number t.queues.associations)

serves_by : (number : ℕ) (t : TargetState) → AllStand t.queues → (o : Option Execution) → ready_at (place_at number t.queues) ≡ o
    → AllStand (served_by o number t).queues
serves_by number t all None is = all
serves_by number t all (Some execution) is = serves_one number execution t all is

-- ---- what else happens

opens_at : (n : Option ℕ) (q : QueuesState) → AllStand q → AllStand (opened_at n q)
opens_at None q all = all
opens_at (Some n) q all =
    all_put n (opened (place_at n q)) q (opened_at (Some n) q) refl all
    (between refl refl (record { awaits = λ is. refl; waits = λ is. refl }))

heard : (kind : Role) (u : TargetState) → AllStand u.queues → AllStand (heard_on kind u).queues
heard role.Unconnected u all = all
heard (role.Admin id) u all = all
heard (role.Io id queue) u all = all
heard role.Ended u all = all

heard_by : (b : Bool) (kind : Role) (u : TargetState) → AllStand u.queues → AllStand (cond b u (heard_on kind u)).queues
heard_by true kind u all = all
heard_by false kind u all = heard kind u all

receives_at : (piece : List ℕ) (p : PlaceState) → Stands p.connection → Stands (places.received piece p).0.connection
receives_at piece p stands =
    let s = taken p.connection piece in
    elim (goes_on p) as (λ b. Stands (cond {A = PlaceState × ℕ} b (stepped (s.state, s.sent) p, s.count) (p, 0)).0.connection) [
      | true ↦ comes_stands p.connection piece stands
      | false ↦ stands
    ]

executes_at : (command : ℕ) (outcome : Outcome) (bytes : List ℕ) (p : PlaceState) → Stands p.connection
    → Stands (executed command outcome bytes p).connection
executes_at command outcome bytes p stands =
    elim p.is_open as (λ b. Stands (cond b (completed_at command outcome bytes (returned p)) (returned p)).connection) [
      | true ↦ completes_stands command outcome bytes p.connection stands
      | false ↦ stands
    ]

executes_all : (number command : ℕ) (outcome : Outcome) (bytes : List ℕ) (q : QueuesState) → AllStand q
    → AllStand (with_place number (executed command outcome bytes (place_at number q)) q)
executes_all number command outcome bytes q all =
    all_put number (executed command outcome bytes (place_at number q)) q (with_place number (executed command outcome bytes (place_at number q)) q) refl all
    (executes_at command outcome bytes (place_at number q) (all number))

pub stay : Stays (λ t. AllStand t.queues)
stay = record {
  opens = λ t all.
      (let n : Option ℕ = free_number t.queues in
      subst (λ (q : QueuesState). AllStand q) (sym (opened_queues n (with_queues (opened_at n t.queues) t))) (opens_at n t.queues all));
  receives = λ number piece t all.
      (let u : TargetState = with_queues (received_at number piece t.queues) t in
      heard_by (count_of number piece t == 0) (role_at number u.queues.associations) u
      (all_put number (places.received piece (place_at number t.queues)).0 t.queues u.queues refl all
      (receives_at piece (place_at number t.queues) (all number))));
  serves = λ number t all. serves_by number t all (ready_at (place_at number t.queues)) refl;
  sends = λ number count t all.
      (let r : QueuesState = sent_at number count t.queues in
      subst (λ (q : QueuesState). AllStand q) (sym (taken_queues number count (with_queues r t)))
      (all_put number (places.sent count (place_at number t.queues)) t.queues r refl all (all number)));
  hands_over = λ number execution t is all.
      all_put number (handed_over (place_at number t.queues)) t.queues (target.handed_over number t).queues refl all
      (goes number execution t all is);
  executes = λ number entry outcome bytes t all.
      (let r = result_of entry outcome bytes in executes_all number (identifier_of entry) r.0 r.1 t.queues all);
  ends_run = λ number command outcome t all. executes_all number command outcome [] t.queues all;
  closes = λ number t all.
      all_put number (closed (place_at number t.queues)) t.queues (target.closed number t).queues refl all (all number);
  ticks = λ milliseconds t all. subst (λ (q : QueuesState). AllStand q) (sym (ticked_queues milliseconds t)) all;
}

pub all_stand_first : AllStand no_queues
all_stand_first number =
    let first : Stands vacant.connection = between refl refl (record { awaits = λ is. refl; waits = λ is. refl }) in
    elim (cases_lt number 40) [
      | inl less ↦ subst (λ (p : PlaceState). Stands p.connection) (sym (get_or-replicate 40 number vacant vacant less)) first
      | inr past ↦ subst (λ (p : PlaceState). Stands p.connection) (sym (get_or_past (replicate 40 vacant) number vacant past)) first
    ]

-- ---- what is taken

not_true : (b : Bool) → not b ≡ true → b ≡ false
not_true true is = absurd cc
not_true false is = refl

pub counts : (p : PlaceState) (first : ℕ) (piece : List ℕ) → Stands p.connection → goes_on p ≡ true → takes p.connection ≡ true
    → 1 ≤ (places.received (first ∷ piece) p).1
counts p first piece stands goes may =
    let c : ConnectionState = p.connection in let bytes : List ℕ = first ∷ piece in
    let on : is_ended c.phase ≡ false = not_true (is_ended c.phase) (and_parts (not (is_ended c.phase)) (not (is_some (ready c))) may).0 in
    let known = reads_of c on stands in
    let all : ℕ = (reading c.receiver.expected (c.receiver.pending ++ bytes)).1 in
    let more : length c.receiver.pending < all = grows c.receiver.expected c.receiver.pending bytes (omega arith) known.reads in
    let is : (places.received bytes p).1 ≡ all - length c.receiver.pending =
    ap (λ (b : Bool). (cond {A = PlaceState × ℕ} b (let t = taken c bytes in (stepped (t.state, t.sent) p, t.count)) (p, 0)).1) goes
    ∙ ap (λ (b : Bool). (cond {A = Step} b (took c bytes) (record { state = c; sent = []; count = 0 })).count) may
    ∙ ap (λ (progress : Progress). (receiving.taken_by progress c.receiver bytes).1) known.partial in
    omega (arith, more, is)

open_of : (p : PlaceState) → goes_on p ≡ true → p.is_open ≡ true
open_of p goes =
    (and_parts p.is_open (nat_le (length p.unsent) 262144) (and_parts (p.is_open && nat_le (length p.unsent) 262144) (nat_lt p.executing 128) goes).0).0

next_by : (execution : Execution) (p : PlaceState) → IsThere execution p → Stands p.connection → (phase : Phase) → p.connection.phase ≡ phase
    → IsNext execution p
next_by execution p it stands Initializing is = absurd (not_begins p.connection execution it.on it.ready stands is)
next_by execution p it stands (Open alignment) is =
    record { is_open = open_of p it.goes; alignment = alignment; initialized = is; ready = it.ready }
next_by execution p it stands Ended is =
    let on = it.on in let over : is_ended p.connection.phase ≡ true = ap (λ (phase : Phase). is_ended phase) is in absurd cc

pub one_of : (p : PlaceState) → Stands p.connection → (o : Option Execution) → ready_at p ≡ o → is_some o ≡ true
    → (execution : Execution) × IsNext execution p
one_of p stands None is some = absurd cc
one_of p stands (Some execution) is some = (execution, next_by execution p (there execution p is) stands p.connection.phase refl)

pub bytes_are_always_taken : BytesAreAlwaysTaken
bytes_are_always_taken device subsystem format deeds s done =
    let all : AllStand s.target.queues = reached (λ t. AllStand t.queues) stay deeds (begun_on device subsystem format) s done all_stand_first in
    record {
      takes = λ number first piece goes may. counts (place_of number s) first piece (all number) goes may;
      next = λ number is.
          one_of (place_of number s) (all number) (ready_at (place_of number s)) refl
          (and_parts (is_some (ready_at (place_of number s))) (not (is_cut_off number s.target.queues)) is).0;
    }
