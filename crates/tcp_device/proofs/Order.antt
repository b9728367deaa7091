-- The device gets the commands of a connection in the order of their capsules.
use Rattle.std.proofs.Common.{◌≡◌, ◌≢◌, ℕ, ◌==◌, Bool, true, false, cond, not, List, [], ◌∷◌, ◌++◌, Option, None, Some, refl, sym, ap, subst, ◌∙◌, append_assoc, append-nil}
use Rattle.std.specs.Prelude.{slice_index_or}
use Rattle.std.proofs.lemmas.Bool.{and_parts, eqb-false, eqb-true}
use Rattle.std.proofs.lemmas.List.{get_or-set_other, map-append}
use Rattle.std.proofs.lemmas.List.Elements.{filter-append}
use Rattle.std.proofs.lemmas.List.Quantifiers.{position-Some}
use Rattle.device_events.specs.declared.event.Event.{Event}
use Rattle.device_events.specs.declared.reply.Reply.{Reply}
use Rattle.device_events.specs.declared.reply.Reply.TheVariants as reply
use Rattle.tcp_connection.specs.Executing.{Execution}
use Rattle.tcp_connection.specs.Order.{entry_of}
use Rattle.tcp_connection.proofs.Proved.{both}
use Rattle.tcp_target.specs.declared.role.Role.TheVariants.{Unconnected, Io}
use Rattle.tcp_target.specs.Associations.{ended_with, left, role_at}
use Rattle.tcp_target.specs.Places.{is_free, ready_at, vacant}
use Rattle.tcp_target.specs.PlaceOrder.{brought_at}
use Rattle.tcp_target.specs.QueueCommands.{given_by, given_to_device, is_for_device}
use Rattle.tcp_target.specs.Queues.{QueuesState, free_number, opened_at, place_at}
use Rattle.tcp_target.specs.Commands.{served}
use Rattle.tcp_target.specs.Events as target
use Rattle.tcp_target.specs.Laws.{ConnectionsStay}
use Rattle.tcp_target.specs.Target.{TargetState, with_queues}
use Rattle.tcp_target.specs.Time.{ticked}
use Rattle.tcp_target.proofs.Order.{MovesAt, ends_run, executes, hands_over, left_role, receives, same_at, sends, serves, ticks}
use Rattle.tcp_target.proofs.Fine.{AreFine, begins_fine}
use Rattle.tcp_target.proofs.Used.{closes_fine, ends_run_fine, executes_fine, hands_over_fine, opens_fine, receives_fine, sends_fine, serves_fine, ticks_fine}
use Rattle.tcp_device.specs.Deeds.{AreDone, Closed, Deed, Does, Opened, Received, Resumed, Sent, Served, Ticked, Turned, events_in, events_of, resumptions, submissions, turns}
use Rattle.tcp_device.specs.Order.{CommandsAreInOrder, Departure, HasQueue, came_by, came_on, departure, entries, given, place_of, submitted_by, submitted_to, went_by, went_on}
use Rattle.tcp_device.specs.Outcome.{outcome_in}
use Rattle.tcp_device.specs.Served.{ResumesGiven, ServesGiven, TurnsGiven, completed_by, ended_by, ended_with as ended_run, next_run}
use Rattle.tcp_device.specs.State.{CommandOfRun, ServedState, begun_on}
use Rattle.tcp_device.proofs.Reached.{Stays, ready_given, reached}

-- ---- what is submitted is what is given

none_to : (number : ℕ) (one other : List Event) → submitted_to number (one ++ other) ≡ submitted_to number one ++ submitted_to number other
none_to number [] other = refl
none_to number (e ∷ one) other =
    ap (λ (rest : List (List ℕ)). submitted_by number e ++ rest) (none_to number one other)
    ∙ sym (append_assoc (submitted_by number e) (submitted_to number one) (submitted_to number other))

module _ (number n : ℕ) (old new : ServedState) where
  -- to another queue
  elsewhere : (n == number) ≡ false → (found : Option Execution) (done : ServesGiven found n old new)
      → submitted_to number (submissions found n old new done) ≡ []
  elsewhere is None done = refl
  elsewhere is (Some execution) done = ap (λ (b : Bool). cond b (execution.entry ∷ []) [] ++ []) is

  given_if : (n == number) ≡ true → (execution : Execution) (b : Bool) (done : ServesGiven (cond b (Some execution) None) n old new)
      → submitted_to number (submissions (cond b (Some execution) None) n old new done)
      ≡ entries (given (record { entry = execution.entry; is_given = b } ∷ []))
  given_if is execution true done = ap (λ (b : Bool). cond b (execution.entry ∷ []) [] ++ []) is
  given_if is execution false done = refl

  here : (n == number) ≡ true → (found : Option Execution) (done : ServesGiven (given_by found n old.target.queues) n old new)
      → submitted_to number (submissions (given_by found n old.target.queues) n old new done) ≡ entries (given (departure found n old.target.queues))
  here is None done = refl
  here is (Some execution) done = given_if is execution (is_for_device n execution.entry old.target.queues) done

  submits_if : (b : Bool) → (n == number) ≡ b → (done : ServesGiven (given_to_device n old.target.queues) n old new)
      → submitted_to number (submissions (given_to_device n old.target.queues) n old new done)
      ≡ entries (given (cond b (departure (ready_at (place_of n old)) n old.target.queues) []))
  submits_if true is done = here is (ready_at (place_of n old)) done
  submits_if false is done = elsewhere is (given_to_device n old.target.queues) done

turn_submits : (number : ℕ) (run : Option ℕ) (old new : ServedState) (done : TurnsGiven run old new)
    → submitted_to number (turns run old new done) ≡ []
turn_submits number None old new done = refl
turn_submits number (Some run) old new done = refl

resumption_submits : (number : ℕ) (command : Option CommandOfRun) (run : ℕ) (old new : ServedState) (done : ResumesGiven command run old new)
    → submitted_to number (resumptions command run old new done) ≡ []
resumption_submits number None run old new done = refl
resumption_submits number (Some command) run old new done = refl

submits : (number : ℕ) (deed : Deed) (old new : ServedState) (done : Does deed old new)
    → submitted_to number (events_in deed old new done) ≡ entries (given (went_by number deed old))
submits number Opened old new done = refl
submits number (Received n piece) old new done = refl
submits number (Sent n count) old new done = refl
submits number (Closed n) old new done = refl
submits number (Ticked milliseconds) old new done = refl
submits number (Served n) old new done = submits_if number n old new (n == number) refl done
submits number Turned old new done = turn_submits number (next_run old) old new done
submits number (Resumed run) old new done = resumption_submits number (slice_index_or old.pending run None) run old new done

all_submitted : (number : ℕ) (deeds : List Deed) (old new : ServedState) (done : AreDone deeds old new)
    → submitted_to number (events_of deeds old new done) ≡ entries (given (went_on number deeds old new done))
all_submitted number [] old new done = refl
all_submitted number (deed ∷ deeds) old new done =
    let before : List Departure = went_on number deeds old done.between done.first in
    let last : List Departure = went_by number deed done.between in
    none_to number (events_of deeds old done.between done.first) (events_in deed done.between new done.last)
    ∙ ap (λ (those : List (List ℕ)). those ++ submitted_to number (events_in deed done.between new done.last))
    (all_submitted number deeds old done.between done.first)
    ∙ ap (λ (those : List (List ℕ)). entries (given before) ++ those) (submits number deed done.between new done.last)
    ∙ sym (map-append (λ (d : Departure). d.entry) (given before) (given last))
    ∙ sym (ap (λ (those : List Departure). entries those) (filter-append (λ (d : Departure). d.is_given) before last))

-- ---- each deed keeps the order

unlike : (number n : ℕ) → (n == number) ≡ false → number ≢ n
unlike number n is same = eqb-false n number is (sym same)

departed : (found : Option Execution) (number : ℕ) (q : QueuesState) → entries (departure found number q) ≡ entry_of found
departed None number q = refl
departed (Some execution) number q = refl

module _ (law : ConnectionsStay) (number : ℕ) where
  abbrev Here : TargetState → Type 0
  Here t = (place_at number t.queues).is_open ≡ true

  -- what happens on another connection
  another : (n : ℕ) (t u : TargetState) → Here t → (n == number) ≡ false
      → ((other : ℕ) → other ≢ n → place_at other u.queues ≡ place_at other t.queues) → MovesAt number [] [] t u
  another n t u held is same = same_at number t u held (same number (unlike number n is))

  receives_if : (n : ℕ) (piece : List ℕ) (t : TargetState) → Here t → (b : Bool) → (n == number) ≡ b
      → MovesAt number [] (cond b (brought_at piece (place_at n t.queues)) []) t (target.received n piece t)
  receives_if n piece t held true is =
      subst (λ (m : ℕ). MovesAt number [] (brought_at piece (place_at m t.queues)) t (target.received m piece t)) (sym (eqb-true n number is))
      (receives number t held piece)
  receives_if n piece t held false is = another n t (target.received n piece t) held is (law.receives n piece t)

  sends_if : (n count : ℕ) (t : TargetState) → Here t → (b : Bool) → (n == number) ≡ b → MovesAt number [] [] t (target.sent n count t)
  sends_if n count t held true is =
      subst (λ (m : ℕ). MovesAt number [] [] t (target.sent m count t)) (sym (eqb-true n number is)) (sends number t held count)
  sends_if n count t held false is = another n t (target.sent n count t) held is (law.sends n count t)

  executes_if : (n : ℕ) (entry completion bytes : List ℕ) (t : TargetState) → Here t → (b : Bool) → (n == number) ≡ b
      → MovesAt number [] [] t (target.executed n entry (outcome_in completion) bytes t)
  executes_if n entry completion bytes t held true is =
      subst (λ (m : ℕ). MovesAt number [] [] t (target.executed m entry (outcome_in completion) bytes t)) (sym (eqb-true n number is))
      (executes number t held entry (outcome_in completion) bytes)
  executes_if n entry completion bytes t held false is =
      another n t (target.executed n entry (outcome_in completion) bytes t) held is (law.executes n entry (outcome_in completion) bytes t)

  ends_run_if : (n command : ℕ) (completion : List ℕ) (t : TargetState) → Here t → (b : Bool) → (n == number) ≡ b
      → MovesAt number [] [] t (target.run_ended n command (outcome_in completion) t)
  ends_run_if n command completion t held true is =
      subst (λ (m : ℕ). MovesAt number [] [] t (target.run_ended m command (outcome_in completion) t)) (sym (eqb-true n number is))
      (ends_run number t held command (outcome_in completion))
  ends_run_if n command completion t held false is =
      another n t (target.run_ended n command (outcome_in completion) t) held is (law.ends_run n command (outcome_in completion) t)

  hands_over_if : (n : ℕ) (execution : Execution) (t : TargetState) → Here t → ready_at (place_at n t.queues) ≡ Some execution
      → (b : Bool) → (n == number) ≡ b → MovesAt number (cond b (execution.entry ∷ []) []) [] t (target.handed_over n t)
  hands_over_if n execution t held ready true is =
      let same = eqb-true n number is in
      subst (λ (m : ℕ). MovesAt number (execution.entry ∷ []) [] t (target.handed_over m t)) (sym same)
      (hands_over number t held execution
      (subst (λ (m : ℕ). ready_at (place_at m t.queues) ≡ Some execution) same ready))
  hands_over_if n execution t held ready false is = another n t (target.handed_over n t) held is (law.hands_over n t)

  serves_if : (n id queue : ℕ) (t : TargetState) → Here t → role_at number t.queues.associations ≡ Io id queue
      → given_to_device n t.queues ≡ None → (b : Bool) → (n == number) ≡ b
      → MovesAt number (cond b (entry_of (ready_at (place_at n t.queues))) []) [] t (served n t)
  serves_if n id queue t held role none true is =
      let same = eqb-true n number is in
      subst (λ (m : ℕ). MovesAt number (entry_of (ready_at (place_at m t.queues))) [] t (served m t)) (sym same)
      (serves number t held id queue role (subst (λ (m : ℕ). given_to_device m t.queues ≡ None) same none))
  serves_if n id queue t held role none false is = another n t (served n t) held is (law.serves n t)

  -- a reply completes a command
  replies : (n : ℕ) (entry bytes : List ℕ) (r : Reply) (t : TargetState) → Here t → MovesAt number [] [] t (completed_by r bytes n entry t)
  replies n entry bytes (reply.Complete queue completion length) t held = executes_if n entry completion bytes t held (n == number) refl
  replies n entry bytes (reply.Pending run) t held = same_at number t t held refl
  replies n entry bytes reply.Idle t held = same_at number t t held refl
  replies n entry bytes reply.FaultTaken t held = same_at number t t held refl
  replies n entry bytes reply.FaultRefused t held = same_at number t t held refl

  ends_with : (command : Option CommandOfRun) (completion : List ℕ) (t : TargetState) → Here t → MovesAt number [] [] t (ended_run command completion t)
  ends_with None completion t held = same_at number t t held refl
  ends_with (Some p) completion t held = ends_run_if p.connection p.command completion t held (p.connection == number) refl

  ends : (r : Reply) (command : Option CommandOfRun) (t : TargetState) → Here t → MovesAt number [] [] t (ended_by r command t)
  ends (reply.Complete queue completion length) command t held = ends_with command completion t held
  ends (reply.Pending run) command t held = same_at number t t held refl
  ends reply.Idle command t held = same_at number t t held refl
  ends reply.FaultTaken command t held = same_at number t t held refl
  ends reply.FaultRefused command t held = same_at number t t held refl

  -- one behind another
  behind : (went went_then came came_then : List (List ℕ)) (t between u : TargetState) → MovesAt number went came t between
      → MovesAt number went_then came_then between u → MovesAt number (went ++ went_then) (came ++ came_then) t u
  behind went went_then came came_then t between u one two = record {
    moves = both went went_then came came_then (place_at number t.queues).connection (place_at number between.queues).connection
        (place_at number u.queues).connection one.moves two.moves;
    is_open = two.is_open;
  }

  module _ (old new : ServedState) (held : Here old.target) where
    -- where the target is this one
    by : (went came : List (List ℕ)) (u : TargetState) → new.target ≡ u → MovesAt number went came old.target u
        → MovesAt number went came old.target new.target
    by went came u is = subst (λ (t : TargetState). MovesAt number went came old.target t) (sym is)

    went_as : (n : ℕ) (found : Option Execution) (q : QueuesState) (b : Bool) → entries (cond b (departure found n q) []) ≡ cond b (entry_of found) []
    went_as n found q true = departed found n q
    went_as n found q false = refl

    serves_given : (n id queue : ℕ) → role_at number old.target.queues.associations ≡ Io id queue → (found : Option Execution)
        → given_to_device n old.target.queues ≡ found → ServesGiven found n old new
        → MovesAt number (cond (n == number) (entry_of (ready_at (place_of n old))) []) [] old.target new.target
    serves_given n id queue role None is done =
        by (cond (n == number) (entry_of (ready_at (place_of n old))) []) [] (served n old.target) (ap (λ (s : ServedState). s.target) done)
        (serves_if n id queue old.target held role is (n == number) refl)
    serves_given n id queue role (Some execution) is done =
        let ready : ready_at (place_of n old) ≡ Some execution =
        ready_given n old.target.queues execution (ready_at (place_of n old)) is in
        let went : List (List ℕ) = cond (n == number) (execution.entry ∷ []) [] in
        let between : TargetState = target.handed_over n old.target in
        let after : TargetState = completed_by done.reply.reply done.reply.bytes n execution.entry between in
        let one : MovesAt number went [] old.target between = hands_over_if n execution old.target held ready (n == number) refl in
        let all : MovesAt number (went ++ []) [] old.target after =
        behind went [] [] [] old.target between after one (replies n execution.entry done.reply.bytes done.reply.reply between one.is_open) in
        by (cond (n == number) (entry_of (ready_at (place_of n old))) []) [] after (ap (λ (s : ServedState). s.target) done.rest)
        (subst (λ (gone : List (List ℕ)). MovesAt number gone [] old.target after)
        (append-nil went ∙ ap (λ (found : Option Execution). cond (n == number) (entry_of found) []) (sym ready)) all)

    turns_given : (run : Option ℕ) → TurnsGiven run old new → MovesAt number [] [] old.target new.target
    turns_given None done = by [] [] old.target (ap (λ (s : ServedState). s.target) done) (same_at number old.target old.target held refl)
    turns_given (Some run) done = by [] [] _ (ap (λ (s : ServedState). s.target) done.rest) (ends done.reply.reply _ old.target held)

    resumes_given : (command : Option CommandOfRun) (run : ℕ) → ResumesGiven command run old new → MovesAt number [] [] old.target new.target
    resumes_given None run done =
        by [] [] old.target (ap (λ (s : ServedState). s.target) done.rest) (same_at number old.target old.target held refl)
    resumes_given (Some command) run done =
        by [] [] old.target (ap (λ (s : ServedState). s.target) done) (same_at number old.target old.target held refl)

    -- a number that a host has is not free
    opens : (n : Option ℕ) → free_number old.target.queues ≡ n → MovesAt number [] [] old.target (target.opened_as n (with_queues (opened_at n old.target.queues) old.target))
    opens None is = same_at number old.target old.target held refl
    opens (Some n) is =
        let free : is_free (place_at n old.target.queues) ≡ true = (position-Some is_free old.target.queues.places n vacant is).1 in
        let u : TargetState = target.opened_as (Some n) (with_queues (opened_at (Some n) old.target.queues) old.target) in
        elim (n == number) as (λ b. (n == number) ≡ b → MovesAt number [] [] old.target u) [
          | true ↦ (λ same.
              let shut : not (place_at number old.target.queues).is_open ≡ true =
              (and_parts (not (place_at number old.target.queues).is_open) ((place_at number old.target.queues).executing == 0)
              (subst (λ (m : ℕ). is_free (place_at m old.target.queues) ≡ true) (eqb-true n number same) free)).0 in
              absurd cc)
          | false ↦ (λ other. same_at number old.target u held (get_or-set_other old.target.queues.places n number _ vacant (unlike number n other)))
        ] refl

    -- a connection that is closed has no queue
    closes : (n id queue : ℕ) → new.target ≡ target.closed n old.target → role_at number new.target.queues.associations ≡ Io id queue
        → (b : Bool) → (n == number) ≡ b → MovesAt number [] [] old.target new.target
    closes n id queue done role true is =
        let none : role_at number new.target.queues.associations ≡ Unconnected =
        ap (λ (t : TargetState). role_at number t.queues.associations) done
        ∙ ap (λ (m : ℕ). role_at number (left m old.target.queues.associations)) (eqb-true n number is)
        ∙ left_role (ended_with (role_at number old.target.queues.associations) old.target.queues.associations).roles number in
        absurd cc
    closes n id queue done role false is =
        by [] [] (target.closed n old.target) done (another n old.target (target.closed n old.target) held is (law.closes n old.target))

    does : (deed : Deed) (id queue : ℕ) → Does deed old new → role_at number old.target.queues.associations ≡ Io id queue
        → role_at number new.target.queues.associations ≡ Io id queue
        → MovesAt number (entries (went_by number deed old)) (came_by number deed old) old.target new.target
    does Opened id queue done role still =
        by [] [] (target.opened old.target) (ap (λ (s : ServedState). s.target) done) (opens (free_number old.target.queues) refl)
    does (Received n piece) id queue done role still =
        by [] (came_by number (Received n piece) old) (target.received n piece old.target) (ap (λ (s : ServedState). s.target) done)
        (receives_if n piece old.target held (n == number) refl)
    does (Sent n count) id queue done role still =
        by [] [] (target.sent n count old.target) (ap (λ (s : ServedState). s.target) done) (sends_if n count old.target held (n == number) refl)
    does (Closed n) id queue done role still = closes n id queue (ap (λ (s : ServedState). s.target) done) still (n == number) refl
    does (Ticked milliseconds) id queue done role still =
        by [] [] (ticked milliseconds old.target) (ap (λ (s : ServedState). s.target) done)
        (same_at number old.target (ticked milliseconds old.target) held (ticks number milliseconds old.target))
    does (Served n) id queue done role still =
        subst (λ (went : List (List ℕ)). MovesAt number went [] old.target new.target)
        (sym (went_as n (ready_at (place_of n old)) old.target.queues (n == number)))
        (serves_given n id queue role (given_to_device n old.target.queues) refl done)
    does Turned id queue done role still = turns_given (next_run old) done
    does (Resumed run) id queue done role still = resumes_given (slice_index_or old.pending run None) run done

  -- ---- all deeds

  role_there : (id queue : ℕ) (deeds : List Deed) (old new : ServedState) (done : AreDone deeds old new) → HasQueue number id queue deeds old new done
      → role_at number new.target.queues.associations ≡ Io id queue
  role_there id queue [] old new done has = has
  role_there id queue (deed ∷ deeds) old new done has = has.1

  do_all : (id queue : ℕ) (deeds : List Deed) (old new : ServedState) (done : AreDone deeds old new) → Here old.target
      → HasQueue number id queue deeds old new done
      → MovesAt number (entries (went_on number deeds old new done)) (came_on number deeds old new done) old.target new.target
  do_all id queue [] old new done held has =
      by old new held [] [] old.target (ap (λ (s : ServedState). s.target) done) (same_at number old.target old.target held refl)
  do_all id queue (deed ∷ deeds) old new done held has =
      let between : ServedState = done.between in
      let before : List Departure = went_on number deeds old between done.first in
      let last : List Departure = went_by number deed between in
      let came : List (List ℕ) = came_on number deeds old between done.first in
      let came_then : List (List ℕ) = came_by number deed between in
      let one : MovesAt number (entries before) came old.target between.target = do_all id queue deeds old between done.first held has.0 in
      subst (λ (went : List (List ℕ)). MovesAt number went (came ++ came_then) old.target new.target)
      (sym (map-append (λ (d : Departure). d.entry) before last))
      (behind (entries before) (entries last) came came_then old.target between.target new.target one
      (does between new one.is_open deed id queue done.last (role_there id queue deeds old between done.first has.0) has.1))

  role_first : (id queue : ℕ) (deeds : List Deed) (old new : ServedState) (done : AreDone deeds old new) → HasQueue number id queue deeds old new done
      → role_at number old.target.queues.associations ≡ Io id queue
  role_first id queue [] old new done has = ap (λ (s : ServedState). role_at number s.target.queues.associations) (sym done) ∙ has
  role_first id queue (deed ∷ deeds) old new done has = role_first id queue deeds old done.between done.first has.0

-- ---- from the beginning on

stay_fine : Stays (λ t. AreFine t.queues)
stay_fine = record {
  opens = opens_fine;
  receives = λ number piece t fine. receives_fine number t fine piece;
  serves = serves_fine;
  sends = λ number count t fine. sends_fine number t fine count;
  hands_over = λ number execution t ready fine. hands_over_fine number t fine execution ready;
  executes = λ number entry outcome bytes t fine. executes_fine number t fine entry outcome bytes;
  ends_run = λ number command outcome t fine. ends_run_fine number t fine command outcome;
  closes = λ number t fine. closes_fine t.queues fine number;
  ticks = ticks_fine;
}

pub commands_are_in_order : ConnectionsStay → CommandsAreInOrder
commands_are_in_order law device subsystem format before deeds old new first done number id queue has =
    let fine : AreFine old.target.queues = reached (λ t. AreFine t.queues) stay_fine before (begun_on device subsystem format) old first begins_fine in
    let used = (fine number).io id queue (role_first law number id queue deeds old new done has) in
    let all = do_all law number id queue deeds old new done used.is_open has in
    record { order = (all.moves.keeps used.settled).order; submitted = all_submitted number deeds old new done }
