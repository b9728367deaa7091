-- The commands that the device has of a connection are its runs.
use Rattle.std.proofs.Common.{◌≡◌, ℕ, zero, suc, ◌<◌, ◌≤◌, ◌+◌, ◌-◌, ◌==◌, ◌&&◌, Bool, true, false, cond, nat_le, nat_lt, List, [], ◌∷◌, length, set, get_or, replicate, Option, None, Some, refl, sym, ap, subst, ◌∙◌, inl, inr, arith}
use Rattle.std.specs.Prelude.{is_none, slice_index_or}
use Rattle.std.specs.Option.{option_map}
use Rattle.std.proofs.lemmas.Bool.{and_parts, cases_lt, eq-eqb, eqb-false, eqb-true, lt-ltb}
use Rattle.std.proofs.lemmas.List.{get_or-replicate, get_or-set_same, get_or_past, set-get_or}
use Rattle.device_events.specs.Replies.{ReplyWithData}
use Rattle.device_events.specs.declared.reply.Reply.{Reply}
use Rattle.device_events.specs.declared.reply.Reply.TheVariants as reply
use Rattle.device_meaning.specs.State.{Place}
use Rattle.tcp_pdus.specs.Direction.{identifier_of}
use Rattle.tcp_connection.specs.declared.queue.Outcome.{Outcome}
use Rattle.tcp_connection.specs.Connection.{taken}
use Rattle.tcp_connection.specs.Executing.{Execution}
use Rattle.tcp_target.specs.declared.role.Role.{Role}
use Rattle.tcp_target.specs.declared.role.Role.TheVariants as role
use Rattle.tcp_target.specs.Associations.{role_at}
use Rattle.tcp_target.specs.QueueCommands.{given_to_device, result_of}
use Rattle.tcp_target.specs.PlaceEvents.{answered_at, completed_at, connected_at, executed, handed_over, kept, opened, returned, stepped}
use Rattle.tcp_target.specs.PlaceEvents as places
use Rattle.tcp_target.specs.Places.{PlaceState, goes_on, ready_at, vacant}
use Rattle.tcp_target.specs.Queues.{QueuesState, free_number, opened_at, place_at, received_at, sent_at, with_place}
use Rattle.tcp_target.specs.Commands.{served, served_by}
use Rattle.tcp_target.specs.Events.{count_of, heard_at, heard_on}
use Rattle.tcp_target.specs.Events as target
use Rattle.tcp_target.specs.Laws.{ConnectionsStay}
use Rattle.tcp_target.specs.Target.{TargetState, with_queues}
use Rattle.tcp_target.specs.Time.{ticked}
use Rattle.tcp_target.proofs.Order.{within}
use Rattle.tcp_target.proofs.Ticking.{opened_queues, taken_queues, ticked_queues}
use Rattle.tcp_device.specs.Answering.{HasPlaces}
use Rattle.tcp_device.specs.Counting.{RunsAreAlwaysCounted, is_of, runs_of}
use Rattle.tcp_device.specs.Deeds.{AreDone, Closed, Deed, Does, Opened, Received, Resumed, Sent, Served, Ticked, Turned}
use Rattle.tcp_device.specs.Laws.{HaveTheirRuns, command_of}
use Rattle.tcp_device.specs.Outcome.{outcome_in}
use Rattle.tcp_device.specs.Served.{ResumesGiven, ServesGiven, TurnsGiven, completed_by, ended_by, freed_by, kept_by, next_run}
use Rattle.tcp_device.specs.State.{CommandOfRun, ServedState, begun_on}
use Rattle.tcp_device.specs.Turning.{HasRuns}
use Rattle.tcp_device.proofs.Completing.{Fits, entry_fits}
use Rattle.tcp_device.proofs.Placing.{places_stay}
use Rattle.tcp_device.proofs.Reached.{ready_given}
use Rattle.tcp_device.proofs.Serving.{serves_as}
use Rattle.tcp_device.proofs.TheirRuns.{none_pending, stay_theirs}
use Rattle.tcp_device.proofs.Turning.{runs_take_turns}

-- ---- lists

-- is it one of them?
abbrev one : ℕ → Option CommandOfRun → ℕ
one number x = cond (is_of number x) 1 0

runs_set : (number : ℕ) (xs : List (Option CommandOfRun)) (k : ℕ) (y : Option CommandOfRun) → k < length xs
    → runs_of number (set xs k y) + one number (get_or xs k None) ≡ runs_of number xs + one number y
runs_set number [] k y less = absurd (omega (arith, less))
runs_set number (x ∷ xs) zero y less = omega arith
runs_set number (x ∷ xs) (suc k) y less = let rest = runs_set number xs k y (omega (arith, less)) in omega (arith, rest)

one_few : (b : Bool) → cond b 1 0 ≤ 1
one_few true = omega arith
one_few false = omega arith

runs_few : (number : ℕ) (xs : List (Option CommandOfRun)) → runs_of number xs ≤ length xs
runs_few number [] = omega arith
runs_few number (x ∷ xs) =
    let rest = runs_few number xs in let first : one number x ≤ 1 = one_few (is_of number x) in omega (arith, rest, first)

runs_none : (number n : ℕ) → runs_of number (replicate n None) ≡ 0
runs_none number zero = refl
runs_none number (suc n) = let rest = runs_none number n in omega (arith, rest)

within_some : (xs : List (Option CommandOfRun)) (k : ℕ) (c : CommandOfRun) → get_or xs k None ≡ Some c → k < length xs
within_some xs k c is = elim (cases_lt k (length xs)) [
  | inl less ↦ less
  | inr past ↦ absurd (let none : get_or xs k None ≡ None = get_or_past xs k None past in cc)
]

-- one that is there counts
pub some_of : (xs : List (Option CommandOfRun)) (k : ℕ) (c : CommandOfRun) → get_or xs k None ≡ Some c → 1 ≤ runs_of c.connection xs
some_of xs k c is =
    let sum = runs_set c.connection xs k None (within_some xs k c is) in
    let here : one c.connection (get_or xs k None) ≡ 1 =
    ap (λ (o : Option CommandOfRun). one c.connection o) is ∙ ap (λ (b : Bool). cond b 1 0) (eq-eqb c.connection c.connection refl) in
    omega (arith, sum, here)

-- ---- a target

abbrev at : ℕ → QueuesState → ℕ
at number q = (place_at number q).executing

abbrev Same : QueuesState → QueuesState → Type 0
Same q r = (number : ℕ) → at number r ≡ at number q

set_same : (those : List PlaceState) (k n : ℕ) (p : PlaceState) → p.executing ≡ (slice_index_or those k vacant).executing
    → (slice_index_or (set those k p) n vacant).executing ≡ (slice_index_or those n vacant).executing
set_same [] k n p same = refl
set_same (q ∷ those) zero zero p same = same
set_same (q ∷ those) zero (suc n) p same = refl
set_same (q ∷ those) (suc k) zero p same = refl
set_same (q ∷ those) (suc k) (suc n) p same = set_same those k n p same

same_put : (k : ℕ) (p : PlaceState) (q r : QueuesState) → r.places ≡ (with_place k p q).places → p.executing ≡ at k q → Same q r
same_put k p q r is same number =
    ap (λ (those : List PlaceState). (slice_index_or those number vacant).executing) is ∙ set_same q.places k number p same

opens_same : (n : Option ℕ) (q : QueuesState) → Same q (opened_at n q)
opens_same None q number = refl
opens_same (Some n) q number = same_put n (opened (place_at n q)) q (opened_at (Some n) q) refl refl number

heard_queues : (kind : Role) (u : TargetState) → (heard_on kind u).queues ≡ u.queues
heard_queues role.Unconnected u = refl
heard_queues (role.Admin id) u = refl
heard_queues (role.Io id queue) u = refl
heard_queues role.Ended u = refl

pub heard_at_queues : (number count : ℕ) (u : TargetState) → (heard_at number count u).queues ≡ u.queues
heard_at_queues number count u =
    elim (count == 0) as (λ b. (cond b u (heard_on (role_at number u.queues.associations) u)).queues ≡ u.queues) [
      | true ↦ refl
      | false ↦ heard_queues (role_at number u.queues.associations) u
    ]

received_same : (piece : List ℕ) (p : PlaceState) → (places.received piece p).0.executing ≡ p.executing
received_same piece p =
    let s = taken p.connection piece in
    elim (goes_on p) as (λ b. (cond {A = PlaceState × ℕ} b (stepped (s.state, s.sent) p, s.count) (p, 0)).0.executing ≡ p.executing) [
      | true ↦ refl
      | false ↦ refl
    ]

by_queues : (q r s : QueuesState) → s ≡ r → Same q r → Same q s
by_queues q r s is same = subst (λ (it : QueuesState). Same q it) (sym is) same

receives_same : (number : ℕ) (piece : List ℕ) (t : TargetState) → Same t.queues (target.received number piece t).queues
receives_same number piece t =
    let u : TargetState = with_queues (received_at number piece t.queues) t in
    by_queues t.queues u.queues _ (heard_at_queues number (count_of number piece t) u)
    (same_put number (places.received piece (place_at number t.queues)).0 t.queues u.queues refl (received_same piece (place_at number t.queues)))

sends_same : (number count : ℕ) (t : TargetState) → Same t.queues (target.sent number count t).queues
sends_same number count t =
    let r : QueuesState = sent_at number count t.queues in
    by_queues t.queues r _ (taken_queues number count (with_queues r t)) (same_put number (places.sent count (place_at number t.queues)) t.queues r refl refl)

served_same : (number : ℕ) (t : TargetState) (o : Option Execution) → Same t.queues (served_by o number t).queues
served_same number t None = λ n. refl
served_same number t (Some execution) =
    let p : PlaceState = place_at number t.queues in
    serves_as (λ r. Same t.queues r) number execution.entry t (λ n. refl)
    (λ outcome bytes r given is. same_put number (answered_at (identifier_of execution.entry) outcome bytes p) t.queues r is refl)
    (λ queue in_capsule outcome r is. same_put number (connected_at queue in_capsule (identifier_of execution.entry) outcome p) t.queues r is refl)
    (λ r is. same_put number (kept p) t.queues r is refl) (role_at number t.queues.associations)

-- a command comes back from the device
executed_one : (command : ℕ) (outcome : Outcome) (bytes : List ℕ) (p : PlaceState) → (executed command outcome bytes p).executing ≡ p.executing - 1
executed_one command outcome bytes p =
    elim p.is_open as (λ b. (cond b (completed_at command outcome bytes (returned p)) (returned p)).executing ≡ p.executing - 1) [
      | true ↦ refl
      | false ↦ refl
    ]

-- ---- deeds

-- what is known of a target before a device
pub record IsCounted (s : ServedState) : Type 0 where
  pub count : (number : ℕ) → at number s.target.queues ≡ runs_of number s.pending
  pub theirs : HaveTheirRuns s
  pub places : HasPlaces s
  pub runs : HasRuns s

abbrev Counts : ServedState → Type 0
Counts s = (number : ℕ) → at number s.target.queues ≡ runs_of number s.pending

module _ (law : ConnectionsStay) (old new : ServedState) (counted : IsCounted old) where
  same_counts : (t : TargetState) → new.target ≡ t → new.pending ≡ old.pending → Same old.target.queues t.queues → Counts new
  same_counts t is pending same number =
      ap (λ (u : TargetState). at number u.queues) is ∙ same number ∙ counted.count number
      ∙ ap (λ (all : List (Option CommandOfRun)). runs_of number all) (sym pending)

  -- ---- a command goes to the device

  module _ (number : ℕ) (execution : Execution) (held : (place_at number old.target.queues).is_open ≡ true) where
    abbrev p : PlaceState
    p = place_at number old.target.queues

    abbrev between : TargetState
    between = target.handed_over number old.target

    there : place_at number between.queues ≡ handed_over p
    there = get_or-set_same old.target.queues.places number (handed_over p) vacant (within number old.target held)

    -- it is completed at once
    completes_same : (outcome : Outcome) (bytes : List ℕ) → Same old.target.queues (target.executed number execution.entry outcome bytes between).queues
    completes_same outcome bytes n =
        let r = result_of execution.entry outcome bytes in
        let q : PlaceState = executed (identifier_of execution.entry) r.0 r.1 (place_at number between.queues) in
        elim (n == number) as (λ b. (n == number) ≡ b
        → at n (target.executed number execution.entry outcome bytes between).queues ≡ at n old.target.queues) [
          | true ↦ (λ is.
              let one_more : (place_at number between.queues).executing ≡ p.executing + 1 = ap (λ (it : PlaceState). it.executing) there in
              let one_less : q.executing ≡ (place_at number between.queues).executing - 1 =
              executed_one (identifier_of execution.entry) r.0 r.1 (place_at number between.queues) in
              let held_between : (place_at number between.queues).is_open ≡ true = ap (λ (it : PlaceState). it.is_open) there ∙ held in
              let put : at number (target.executed number execution.entry outcome bytes between).queues ≡ q.executing =
              ap (λ (it : PlaceState). it.executing)
              (get_or-set_same between.queues.places number q vacant (within number between held_between)) in
              let whole : at number (target.executed number execution.entry outcome bytes between).queues ≡ p.executing =
              omega (arith, put, one_less, one_more) in
              subst (λ (m : ℕ). at m (target.executed number execution.entry outcome bytes between).queues ≡ at m old.target.queues)
              (sym (eqb-true n number is)) whole)
          | false ↦ (λ other.
              let unlike = eqb-false n number other in
              ap (λ (it : PlaceState). it.executing) (law.executes number execution.entry outcome bytes between n unlike)
              ∙ ap (λ (it : PlaceState). it.executing) (law.hands_over number old.target n unlike))
        ] refl

    -- or it is a run's
    free_run : (run : ℕ) → is_none (get_or old.device.places run None) ≡ true → (o : Option CommandOfRun) → get_or old.pending run None ≡ o
        → get_or old.pending run None ≡ None
    free_run run free None is = is
    free_run run free (Some c) is =
        let its : option_map command_of (get_or old.device.places run None) ≡ Some c = counted.theirs run c is in
        let none : (place : Option Place) → is_none place ≡ true → option_map command_of place ≡ Some c → ⊥ = has_none c in
        absurd (none (get_or old.device.places run None) free its)
      where
        has_none : (c : CommandOfRun) (place : Option Place) → is_none place ≡ true → option_map command_of place ≡ Some c → ⊥
        has_none c None free is = absurd cc
        has_none c (Some place) free is = absurd cc

    handed : (n : ℕ) (b : Bool) → (number == n) ≡ b → at n between.queues ≡ at n old.target.queues + cond b 1 0
    handed n true is =
        subst (λ (m : ℕ). at m between.queues ≡ at m old.target.queues + 1) (eqb-true number n is) (ap (λ (it : PlaceState). it.executing) there)
    handed n false is =
        let same : at n between.queues ≡ at n old.target.queues =
        ap (λ (it : PlaceState). it.executing) (law.hands_over number old.target n (λ e. eqb-false number n is (sym e))) in
        omega (arith, same)

    begins : (run : ℕ) → run < length old.pending → is_none (get_or old.device.places run None) ≡ true
        → new.target ≡ between
        → new.pending ≡ set old.pending run (Some (record { connection = number; command = identifier_of execution.entry })) → Counts new
    begins run less free is pending n =
        let c : CommandOfRun = record { connection = number; command = identifier_of execution.entry } in
        let none : get_or old.pending run None ≡ None = free_run run free (get_or old.pending run None) refl in
        let sum = runs_set n old.pending run (Some c) less in
        let nothing : one n (get_or old.pending run None) ≡ 0 = ap (λ (o : Option CommandOfRun). one n o) none in
        let placed : at n between.queues ≡ at n old.target.queues + one n (Some c) = handed n (number == n) refl in
        let before = counted.count n in
        let after : at n new.target.queues ≡ at n between.queues = ap (λ (u : TargetState). at n u.queues) is in
        let runs : runs_of n new.pending ≡ runs_of n (set old.pending run (Some c)) =
        ap (λ (all : List (Option CommandOfRun)). runs_of n all) pending in
        omega (arith, sum, nothing, placed, before, after, runs)

    by_reply : (r : Reply) (bytes : List ℕ) → Fits r old.device → new.target ≡ completed_by r bytes number execution.entry between
        → new.pending ≡ kept_by r number execution.entry old.pending → Counts new
    by_reply (reply.Complete queue completion length) bytes fits is pending =
        same_counts _ is pending (completes_same (outcome_in completion) bytes)
    by_reply (reply.Pending run) bytes fits is pending =
        begins run (subst (λ (size : ℕ). run < size) counted.places fits.0) fits.1 is pending
    by_reply reply.Idle bytes fits is pending = absurd fits
    by_reply reply.FaultTaken bytes fits is pending = absurd fits
    by_reply reply.FaultRefused bytes fits is pending = absurd fits

  open_of : (q : PlaceState) → goes_on q ≡ true → q.is_open ≡ true
  open_of q goes =
      (and_parts q.is_open (nat_le (length q.unsent) 262144) (and_parts (q.is_open && nat_le (length q.unsent) 262144) (nat_lt q.executing 128) goes).0).0

  goes_by : (b : Bool) (o : Option Execution) (execution : Execution) → cond b o None ≡ Some execution → b ≡ true
  goes_by true o execution is = refl
  goes_by false o execution is = absurd cc

  serves : (number : ℕ) (given : Option Execution) → given_to_device number old.target.queues ≡ given → ServesGiven given number old new → Counts new
  serves number None is done =
      same_counts (served number old.target) (ap (λ (s : ServedState). s.target) done) (ap (λ (s : ServedState). s.pending) done)
      (served_same number old.target (ready_at (place_at number old.target.queues)))
  serves number (Some execution) is done =
      let q : PlaceState = place_at number old.target.queues in
      let ready : ready_at q ≡ Some execution = ready_given number old.target.queues execution (ready_at q) is in
      let happened = done.taken.happened in
      by_reply number execution (open_of q (goes_by (goes_on q) _ execution ready)) done.reply.reply done.reply.bytes
      (subst (λ (r : ReplyWithData). Fits r.reply old.device) (sym happened.replied)
      (entry_fits happened.starved number execution.entry done.taken.carried.items old.device))
      (ap (λ (s : ServedState). s.target) done.rest) (ap (λ (s : ServedState). s.pending) done.rest)

  -- ---- a run ends

  module _ (run : ℕ) where
    same_turn : new.target ≡ old.target → new.pending ≡ old.pending → Counts new
    same_turn is pending = same_counts old.target is pending (λ n. refl)

    freed_none : get_or old.pending run None ≡ None → set old.pending run None ≡ old.pending
    freed_none none = subst (λ (x : Option CommandOfRun). set old.pending run x ≡ old.pending) none (set-get_or old.pending run None)

    module _ (c : CommandOfRun) (is : get_or old.pending run None ≡ Some c) (outcome : Outcome) where
      abbrev q : PlaceState
      q = place_at c.connection old.target.queues

      less : run < length old.pending
      less = within_some old.pending run c is

      sum_at : (n : ℕ) → runs_of n (set old.pending run None) + one n (Some c) ≡ runs_of n old.pending
      sum_at n =
          let sum : runs_of n (set old.pending run None) + one n (get_or old.pending run None) ≡ runs_of n old.pending + 0 =
          runs_set n old.pending run None less in
          let same : one n (get_or old.pending run None) ≡ one n (Some c) = ap (λ (o : Option CommandOfRun). one n o) is in
          omega (arith, sum, same)

      some_there : 1 ≤ q.executing
      some_there = let some = some_of old.pending run c is in let count = counted.count c.connection in omega (arith, some, count)

      placed : c.connection < length old.target.queues.places
      placed = elim (cases_lt c.connection (length old.target.queues.places)) [
        | inl within ↦ within
        | inr past ↦ absurd (
            let none : q.executing ≡ 0 = ap (λ (it : PlaceState). it.executing) (get_or_past old.target.queues.places c.connection vacant past) in
            let some = some_there in omega (arith, none, some))
      ]

      left_at : (n : ℕ) (b : Bool) → (c.connection == n) ≡ b
          → at n (target.run_ended c.connection c.command outcome old.target).queues + cond b 1 0 ≡ at n old.target.queues
      left_at n true same =
          let put : at c.connection (target.run_ended c.connection c.command outcome old.target).queues ≡ q.executing - 1 =
          ap (λ (it : PlaceState). it.executing)
          (get_or-set_same old.target.queues.places c.connection (executed c.command outcome [] q) vacant placed)
          ∙ executed_one c.command outcome [] q in
          let some = some_there in
          subst (λ (m : ℕ). at m (target.run_ended c.connection c.command outcome old.target).queues + 1 ≡ at m old.target.queues)
          (eqb-true c.connection n same) (omega (arith, put, some))
      left_at n false other =
          let same : at n (target.run_ended c.connection c.command outcome old.target).queues ≡ at n old.target.queues =
          ap (λ (it : PlaceState). it.executing)
          (law.ends_run c.connection c.command outcome old.target n (λ e. eqb-false c.connection n other (sym e))) in
          omega (arith, same)

      ends_counts : new.target ≡ target.run_ended c.connection c.command outcome old.target → new.pending ≡ set old.pending run None → Counts new
      ends_counts target_is pending n =
          let after : at n new.target.queues ≡ at n (target.run_ended c.connection c.command outcome old.target).queues =
          ap (λ (u : TargetState). at n u.queues) target_is in
          let runs : runs_of n new.pending ≡ runs_of n (set old.pending run None) =
          ap (λ (all : List (Option CommandOfRun)). runs_of n all) pending in
          let gone : at n (target.run_ended c.connection c.command outcome old.target).queues + one n (Some c) ≡ at n old.target.queues =
          left_at n (c.connection == n) refl in
          let sum = sum_at n in let before = counted.count n in omega (arith, after, runs, gone, sum, before)

    turns_by : (r : Reply) (command : Option CommandOfRun) → get_or old.pending run None ≡ command → new.target ≡ ended_by r command old.target
        → new.pending ≡ freed_by r run old.pending → Counts new
    turns_by (reply.Complete queue completion length) None none is pending = same_turn is (pending ∙ freed_none none)
    turns_by (reply.Complete queue completion length) (Some c) some is pending = ends_counts c some (outcome_in completion) is pending
    turns_by (reply.Pending number) command some is pending = same_turn is pending
    turns_by reply.Idle command some is pending = same_turn is pending
    turns_by reply.FaultTaken command some is pending = same_turn is pending
    turns_by reply.FaultRefused command some is pending = same_turn is pending

  turns : (run : Option ℕ) → TurnsGiven run old new → Counts new
  turns None done = same_counts old.target (ap (λ (s : ServedState). s.target) done) (ap (λ (s : ServedState). s.pending) done) (λ n. refl)
  turns (Some run) done =
      turns_by run done.reply.reply (get_or old.pending run None) refl (ap (λ (s : ServedState). s.target) done.rest)
      (ap (λ (s : ServedState). s.pending) done.rest)

  resumes : (command : Option CommandOfRun) (run : ℕ) → ResumesGiven command run old new → Counts new
  resumes None run done =
      same_counts old.target (ap (λ (s : ServedState). s.target) done.rest) (ap (λ (s : ServedState). s.pending) done.rest) (λ n. refl)
  resumes (Some command) run done =
      same_counts old.target (ap (λ (s : ServedState). s.target) done) (ap (λ (s : ServedState). s.pending) done) (λ n. refl)

  -- what a deed makes of a target alone
  alone : (t : TargetState) → new ≡ record old { target = t } → Same old.target.queues t.queues → Counts new
  alone t done same = same_counts t (ap (λ (s : ServedState). s.target) done) (ap (λ (s : ServedState). s.pending) done) same

  counts : (deed : Deed) → Does deed old new → Counts new
  counts Opened done =
      let n : Option ℕ = free_number old.target.queues in
      alone (target.opened old.target) done
      (by_queues old.target.queues (opened_at n old.target.queues) _ (opened_queues n (with_queues (opened_at n old.target.queues) old.target))
      (opens_same n old.target.queues))
  counts (Received number piece) done = alone (target.received number piece old.target) done (receives_same number piece old.target)
  counts (Sent number count) done = alone (target.sent number count old.target) done (sends_same number count old.target)
  counts (Closed number) done =
      alone (target.closed number old.target) done
      (same_put number (places.closed (place_at number old.target.queues)) old.target.queues (target.closed number old.target).queues refl refl)
  counts (Ticked milliseconds) done =
      alone (ticked milliseconds old.target) done
      (by_queues old.target.queues old.target.queues _ (ticked_queues milliseconds old.target) (λ n. refl))
  counts (Served number) done = serves number (given_to_device number old.target.queues) refl done
  counts Turned done = turns (next_run old) done
  counts (Resumed run) done = resumes (get_or old.pending run None) run done

  pub counts_on : (deed : Deed) → Does deed old new → IsCounted new
  counts_on deed done = record {
    count = counts deed done;
    theirs = stay_theirs deed old new done counted.theirs;
    places = places_stay deed old new done counted.places;
    runs = runs_take_turns.stay deed old new done counted.runs;
  }

-- ---- from the beginning on

all_counted : ConnectionsStay → (deeds : List Deed) (old new : ServedState) → AreDone deeds old new → IsCounted old → IsCounted new
all_counted law [] old new done counted = subst (λ (s : ServedState). IsCounted s) (sym done) counted
all_counted law (deed ∷ deeds) old new done counted =
    counts_on law done.between new (all_counted law deeds old done.between done.first counted) deed done.last

none_at : (number : ℕ) → (slice_index_or (replicate 40 vacant) number vacant).executing ≡ 0
none_at number = elim (cases_lt number 40) [
  | inl less ↦ ap (λ (p : PlaceState). p.executing) (get_or-replicate 40 number vacant vacant less)
  | inr past ↦ ap (λ (p : PlaceState). p.executing) (get_or_past (replicate 40 vacant) number vacant past)
]

and_true : (b : Bool) → (b && true) ≡ b
and_true true = refl
and_true false = refl

module _ (s : ServedState) (counted : IsCounted s) (number : ℕ) where
  few : at number s.target.queues ≤ 8
  few = let is = counted.count number in let most = runs_few number s.pending in let eight = counted.runs.places in
      omega (arith, is, most, eight)

  goes : goes_on (place_at number s.target.queues)
      ≡ (place_at number s.target.queues).is_open && nat_le (length (place_at number s.target.queues).unsent) 262144
  goes =
      let p : PlaceState = place_at number s.target.queues in
      let most = few in
      ap (λ (b : Bool). (p.is_open && nat_le (length p.unsent) 262144) && b) (lt-ltb p.executing 128 (omega (arith, most)))
      ∙ and_true (p.is_open && nat_le (length p.unsent) 262144)

pub runs_are_counted : ConnectionsStay → RunsAreAlwaysCounted
runs_are_counted law device subsystem format deeds s places done =
    let counted : IsCounted s =
    all_counted law deeds (begun_on device subsystem format) s done (record {
      count = λ number. none_at number ∙ sym (runs_none number 8);
      theirs = λ run command is. absurd (none_pending run command is);
      places = places;
      runs = runs_take_turns.begin device subsystem format;
    }) in
    record { count = counted.count; few = few s counted; goes = goes s counted }
