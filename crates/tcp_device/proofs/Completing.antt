-- A service answers the command that is next on its connection.
use Rattle.std.proofs.Common.{◌≡◌, ℕ, suc, ◌<◌, ◌==◌, Bool, true, false, cond, not, List, [], ◌∷◌, ◌++◌, length, get_or, Option, None, Some, Result, Ok, Err, ◌⊎◌, is_some, refl, sym, ap, subst, ◌∙◌, inl, inr, append_assoc, arith}
use Rattle.std.specs.List.{position}
use Rattle.std.specs.Prelude.{slice_index, slice_index_or, is_none}
use Rattle.std.proofs.lemmas.Bool.{and_parts, eq-eqb, ne_eqb}
use Rattle.std.proofs.lemmas.List.{get_or-set_same}
use Rattle.std.proofs.lemmas.List.Quantifiers.{position-Some}
use Rattle.zone_state.specs.declared.status.Status.{Status}
use Rattle.zone_state.specs.declared.status.TheConstants.Status.{INVALID_COMMAND_OPCODE}
use Rattle.device_events.specs.Replies.{ReplyWithData}
use Rattle.device_events.specs.ToldEvents as told
use Rattle.device_events.specs.declared.reply.Reply.{Reply}
use Rattle.device_events.specs.declared.reply.Reply.TheVariants as reply
use Rattle.device_meaning.specs.EventReplies.{Happening, Submission, submission_of}
use Rattle.device_meaning.specs.Happenings.{happens}
use Rattle.device_meaning.specs.Judging.{interval_judge}
use Rattle.device_meaning.specs.State.{State}
use Rattle.device_meaning.proofs.Proved.{HoldsOfEach, of_entry}
use Rattle.tcp_pdus.specs.Direction.{identifier_of}
use Rattle.tcp_connection.specs.Transfers.{Transfer, free_tag}
use Rattle.tcp_connection.specs.declared.queue.Outcome.{Outcome}
use Rattle.tcp_connection.specs.declared.queue.Phase.{Phase}
use Rattle.tcp_connection.specs.declared.queue.Phase.TheVariants.{Open}
use Rattle.tcp_connection.specs.declared.queue.Queue.{Queue}
use Rattle.tcp_connection.specs.declared.state.ConnectionState.{ConnectionState}
use Rattle.tcp_connection.specs.Commands.{CommandsState, WaitingCommand, first_in, is_running, place_of, started_of, without}
use Rattle.tcp_connection.specs.Dealing.{asked, asked_for, looked_by, unasked}
use Rattle.tcp_connection.specs.Executing.{Execution, completed, completed_in, connected, data_for, data_sent, execution_of, first_ready, gone, waiting_ready, with_started}
use Rattle.tcp_connection.specs.Queue.{is_ended}
use Rattle.tcp_connection.specs.Sending.{answered, completion, next_head}
use Rattle.tcp_admin.specs.Admin.{response}
use Rattle.tcp_admin.specs.Properties.{got, set_by, set_result}
use Rattle.tcp_admin.specs.declared.answer.Answer.{Answer}
use Rattle.tcp_admin.specs.declared.answer.Answer.TheVariants.{Completed, Kept}
use Rattle.tcp_admin.specs.declared.controller.Controller.{Controller}
use Rattle.tcp_target.specs.Associations.{role_at}
use Rattle.tcp_target.specs.Connected.{refusal, success}
use Rattle.tcp_target.specs.ConnectRequest.{request_in}
use Rattle.tcp_target.specs.declared.connected.Connected.{Connected}
use Rattle.tcp_target.specs.declared.connect_request.ConnectRequest.{ConnectRequest}
use Rattle.tcp_target.specs.declared.role.Role.{Role}
use Rattle.tcp_target.specs.declared.role.Role.TheVariants as role
use Rattle.tcp_target.specs.QueueCommands.{connect_answer_at, connect_data_at, connect_place, connected_by, given_by, given_to_device, is_fabrics, is_for_device, result_of}
use Rattle.tcp_target.specs.QueueCommands as queues
use Rattle.tcp_target.specs.Ends.{is_cut_off, is_ended_role}
use Rattle.tcp_target.specs.PlaceEvents.{answered_at, completed_at, connected_at, executed, handed_over, returned}
use Rattle.tcp_target.specs.Places.{PlaceState, goes_on, ready_at, vacant}
use Rattle.tcp_target.specs.Queues.{QueuesState, place_at, with_place}
use Rattle.tcp_target.specs.declared.outcomes.TheConstants.{COMMAND_SEQUENCE_ERROR}
use Rattle.tcp_target.specs.Commands.{completed_by as ends_by, is_connect, refused_with, served, served_admin, served_as, served_by, served_fabrics, served_get, served_io, served_set, served_unconnected, set_outcome, value_outcome, with_made}
use Rattle.tcp_target.specs.Events as target
use Rattle.tcp_target.specs.Ready.{is_ready}
use Rattle.tcp_target.specs.Target.{TargetState, controller_at, heard, with_controller, with_queues}
use Rattle.tcp_target.proofs.Order.{within}
use Rattle.tcp_device.specs.Answering.{HasPlaces, IsAnswered, IsAwaited, IsCompleted, IsDone, IsEndedBy, IsExecuted, IsNext, IsTurned}
use Rattle.tcp_device.specs.Answering.IsExecuted.{is_completed, is_kept}
use Rattle.tcp_device.specs.Deeds.{Does, Served, Turned}
use Rattle.tcp_device.specs.Order.{place_of as device_place}
use Rattle.tcp_device.specs.Outcome.{outcome_in}
use Rattle.tcp_device.specs.Served.{ServesGiven, TurnsGiven, completed_by, ended_by, kept_by, next_run}
use Rattle.tcp_device.specs.State.{CommandOfRun, ServedState, with_target}
use Rattle.tcp_device.proofs.Reached.{ready_given}
use Rattle.tcp_device.proofs.Turning.{found}

-- ---- a connection

-- the data that is asked for another command changes no phase, and none of those that are executed
record KeepsCommands (s t : ConnectionState) : Type 0 where
  phase : t.phase ≡ s.phase
  commands : t.commands ≡ s.commands

asks_same : (tag command : ℕ) (wanted : Option ℕ) (s : ConnectionState) → KeepsCommands s (asked tag command wanted s).0
asks_same tag command None s = record { phase = refl; commands = refl }
asks_same tag command (Some wanted) s = record { phase = refl; commands = refl }

asks_for_same : (tag : ℕ) (command : Option WaitingCommand) (s : ConnectionState) → KeepsCommands s (asked_for tag command s).0
asks_for_same tag None s = record { phase = refl; commands = refl }
asks_for_same tag (Some command) s = asks_same tag (identifier_of command.entry) command.wanted s

looks_same : (tag : Option ℕ) (s : ConnectionState) → KeepsCommands s (looked_by tag s).0
looks_same None s = record { phase = refl; commands = refl }
looks_same (Some tag) s = asks_for_same tag (unasked s) s

gone_same : (s : ConnectionState) → KeepsCommands (with_started s) (gone s).0
gone_same s = let t : ConnectionState = with_started s in looks_same (free_tag t.receiver.expected.transfers) t

-- the command that goes is executed from then on
last_is : (xs : List ℕ) (x d : ℕ) → get_or (xs ++ x ∷ []) (length xs) d ≡ x
last_is [] x d = refl
last_is (y ∷ xs) x d = last_is xs x d

has_last : (xs : List ℕ) (x : ℕ) → is_some (position (λ it. it == x) (xs ++ x ∷ [])) ≡ true
has_last xs x =
    let other : (suc x == x) ≡ false = ne_eqb (suc x) x (λ (e : suc x ≡ x). omega (arith, e)) in
    let same : (get_or (xs ++ x ∷ []) (length xs) (suc x) == x) ≡ true = ap (λ (n : ℕ). n == x) (last_is xs x (suc x)) ∙ eq-eqb x x refl in
    ap (λ (o : Option ℕ). is_some o) (found (λ it. it == x) (xs ++ x ∷ []) (length xs) (suc x) other same).1

entry_is : (entry : List ℕ) (o : Option (List ℕ)) (execution : Execution) → execution_of entry o ≡ Some execution → entry ≡ execution.entry
entry_is entry None execution is = absurd cc
entry_is entry (Some bytes) execution is =
    let same : ◌≡◌ {A = Execution} (record { entry = entry; «data» = bytes }) execution = cc in ap (λ (it : Execution). it.entry) same

starts_running : (running : List ℕ) (waiting : List WaitingCommand) (transfers : List (Option Transfer)) (execution : Execution)
    → first_ready (first_in waiting) transfers ≡ Some execution
    → is_some (place_of (identifier_of execution.entry) (started_of running waiting).running) ≡ true
starts_running running [] transfers execution is = absurd cc
starts_running running (first ∷ rest) transfers execution is =
    let same : first.entry ≡ execution.entry = entry_is first.entry (data_for first.wanted first transfers) execution is in
    subst (λ (entry : List ℕ). is_some (place_of (identifier_of entry) (running ++ identifier_of first.entry ∷ [])) ≡ true) same
    (has_last running (identifier_of first.entry))

-- what completes a command that is executed
sends : (command : ℕ) (outcome : Outcome) (bytes : List ℕ) (s : ConnectionState) (alignment : ℕ) → s.phase ≡ Open alignment
    → is_running command s.commands ≡ true
    → (completed command outcome bytes s).1
    ≡ data_sent alignment command bytes ++ completion s.queue (next_head s.head s.queue.entries) command outcome
sends command outcome bytes s alignment initialized running =
    let a : ConnectionState × List ℕ = answered command outcome (record s { commands = without command s.commands }) in
    ap (λ (phase : Phase). (completed_in phase command outcome bytes s).1) initialized
    ∙ ap (λ (b : Bool). (cond {A = ConnectionState × List ℕ} b (a.0, data_sent alignment command bytes ++ a.1) (s, [])).1) running

-- ---- a place

pub completes : (command : ℕ) (outcome : Outcome) (bytes before : List ℕ) (c : ConnectionState) (alignment : ℕ) (p q : PlaceState)
    → c.phase ≡ Open alignment → is_running command c.commands ≡ true
    → q.unsent ≡ p.unsent ++ (before ++ (completed command outcome bytes c).1) → IsCompleted command outcome bytes p q
completes command outcome bytes before c alignment p q initialized running is = record {
  before = before;
  alignment = alignment;
  queue = c.queue;
  head = next_head c.head c.queue.entries;
  sent = is ∙ ap (λ (l : List ℕ). p.unsent ++ (before ++ l)) (sends command outcome bytes c alignment initialized running);
}

module _ (execution : Execution) (p : PlaceState) (n : IsNext execution p) where
  abbrev command : ℕ
  command = identifier_of execution.entry

  open_still : (gone p.connection).0.phase ≡ Open n.alignment
  open_still = (gone_same p.connection).phase ∙ n.initialized

  runs : is_running command (gone p.connection).0.commands ≡ true
  runs = ap (λ (c : CommandsState). is_running command c) (gone_same p.connection).commands
      ∙ starts_running p.connection.commands.running p.connection.commands.waiting p.connection.receiver.expected.transfers execution n.ready

  answers_at : (outcome : Outcome) (bytes : List ℕ) → IsCompleted command outcome bytes p (answered_at command outcome bytes p)
  answers_at outcome bytes =
      completes command outcome bytes (gone p.connection).1 (gone p.connection).0 n.alignment p (answered_at command outcome bytes p) open_still runs
      (append_assoc p.unsent (gone p.connection).1 (completed command outcome bytes (gone p.connection).0).1)

  connects_at : (queue : Queue) (in_capsule : ℕ) (outcome : Outcome) → IsCompleted command outcome [] p (connected_at queue in_capsule command outcome p)
  connects_at queue in_capsule outcome =
      let c : ConnectionState = connected queue in_capsule (gone p.connection).0 in
      completes command outcome [] (gone p.connection).1 c n.alignment p (connected_at queue in_capsule command outcome p) open_still runs
      (append_assoc p.unsent (gone p.connection).1 (completed command outcome [] c).1)

  executes_at : (outcome : Outcome) (bytes : List ℕ) → IsCompleted command outcome bytes p (executed command outcome bytes (handed_over p))
  executes_at outcome bytes =
      let q : PlaceState = returned (handed_over p) in
      completes command outcome bytes (gone p.connection).1 (gone p.connection).0 n.alignment p (executed command outcome bytes (handed_over p))
      open_still runs
      (ap (λ (b : Bool). (cond b (completed_at command outcome bytes q) q).unsent) n.is_open
      ∙ append_assoc p.unsent (gone p.connection).1 (completed command outcome bytes (gone p.connection).0).1)

-- ---- the target executes it

module _ (number : ℕ) (execution : Execution) (t : TargetState) (n : IsNext execution (place_at number t.queues)) where
  abbrev p : PlaceState
  p = place_at number t.queues

  abbrev entry : List ℕ
  entry = execution.entry

  abbrev Ends : QueuesState → Type 0
  Ends q = (outcome : Outcome) × (bytes : List ℕ) × IsCompleted (identifier_of entry) outcome bytes p (place_at number q)

  abbrev Keeps : Type 0
  Keeps =
      (id : ℕ) × (role_at number t.queues.associations ≡ role.Admin id)
      × ((response entry t.subsystem t.format (controller_at id t)).answer ≡ Kept)

  abbrev Own : TargetState → Type 0
  Own u = Ends u.queues ⊎ Keeps

  there : (q : PlaceState) → place_at number (with_place number q t.queues) ≡ q
  there q = get_or-set_same t.queues.places number q vacant (within number t n.is_open)

  put : (outcome : Outcome) (bytes : List ℕ) (q : PlaceState) (r : QueuesState)
      → place_at number r ≡ place_at number (with_place number q t.queues) → IsCompleted (identifier_of entry) outcome bytes p q → Ends r ⊎ Keeps
  put outcome bytes q r is completed =
      inl (outcome, bytes, subst (λ (it : PlaceState). IsCompleted (identifier_of entry) outcome bytes p it) (sym (is ∙ there q)) completed)

  answers_with : (outcome : Outcome) (bytes : List ℕ) (r : QueuesState)
      → place_at number r ≡ place_at number (with_place number (answered_at (identifier_of entry) outcome bytes p) t.queues) → Ends r ⊎ Keeps
  answers_with outcome bytes r is = put outcome bytes (answered_at (identifier_of entry) outcome bytes p) r is (answers_at execution p n outcome bytes)

  refuses : (status : Status) → Own (refused_with number entry status t)
  refuses status = answers_with (refusal status) [] (refused_with number entry status t).queues refl

  either : (b : Bool) (u v : TargetState) → Own u → Own v → Own (cond b u v)
  either true u v first second = first
  either false u v first second = second

  -- Connect
  joins : (request : ConnectRequest) (a : Result Connected Outcome)
      → Own (with_queues (connected_by a number (identifier_of entry) (connect_data_at number t.queues) t.queues) t)
  joins request (Ok c) =
      put (success c.controller) [] (connected_at c.queue c.in_capsule (identifier_of entry) (success c.controller) p)
      (connected_by (Ok c) number (identifier_of entry) (connect_data_at number t.queues) t.queues) refl
      (connects_at execution p n c.queue c.in_capsule (success c.controller))
  joins request (Err outcome) =
      answers_with outcome [] (connected_by (Err outcome) number (identifier_of entry) (connect_data_at number t.queues) t.queues) refl

  made : (request : ConnectRequest) (a : Result Connected Outcome) (u : TargetState) → Own u → Own (with_made request a u)
  made request (Ok c) u own = either (c.queue.id == 0) _ _ own own
  made request (Err outcome) u own = own

  unconnected : Own (served_unconnected number entry t)
  unconnected =
      let request = request_in entry in let a = connect_answer_at number request t.subsystem.nqn t.queues in
      either (is_connect entry) _ _
      (made request a (with_queues (queues.connected number (identifier_of entry) request t.subsystem.nqn t.queues) t) (joins request a))
      (refuses COMMAND_SEQUENCE_ERROR)

  -- admin queues
  fabrics : (id : ℕ) → Own (served_fabrics number id entry t)
  fabrics id =
      let r = set_by entry (controller_at id t) in
      either (slice_index entry 4 == 0x00) _ _ (answers_with (set_outcome (set_result r)) [] (served_set number id entry t).queues refl)
      (either (slice_index entry 4 == 0x04) _ _
      (answers_with (value_outcome (got entry (controller_at id t))) [] (served_get number id entry t).queues refl)
      (either (slice_index entry 4 == 0x01) _ _ (refuses COMMAND_SEQUENCE_ERROR) (refuses INVALID_COMMAND_OPCODE)))

  ends : (id : ℕ) → role_at number t.queues.associations ≡ role.Admin id → (c : Controller) (bytes : List ℕ) (a : Answer)
      → (response entry t.subsystem t.format (controller_at id t)).answer ≡ a
      → Own (heard id (with_controller id c (with_queues (ends_by a number entry bytes t.queues) t)))
  ends id is c bytes (Completed outcome) same = answers_with outcome bytes (ends_by (Completed outcome) number entry bytes t.queues) refl
  ends id is c bytes Kept same = inr (id, is, same)

  admin : (id : ℕ) → role_at number t.queues.associations ≡ role.Admin id → Own (served_admin number id entry t)
  admin id is =
      let r = response entry t.subsystem t.format (controller_at id t) in
      either (is_fabrics entry) _ _ (fabrics id) (ends id is r.controller r.«data» r.answer refl)

  -- I/O queues
  io : is_for_device number entry t.queues ≡ false → Own (served_io number entry t)
  io never =
      either (is_fabrics entry) _ _ (refuses INVALID_COMMAND_OPCODE)
      (subst (λ (b : Bool). Own (cond b t (refused_with number entry COMMAND_SEQUENCE_ERROR t))) (sym never) (refuses COMMAND_SEQUENCE_ERROR))

  own_as : (kind : Role) → role_at number t.queues.associations ≡ kind → is_ended_role kind ≡ false → is_for_device number entry t.queues ≡ false
      → Own (served_as kind number entry t)
  own_as role.Unconnected is there never = unconnected
  own_as (role.Admin id) is there never = admin id is
  own_as (role.Io id queue) is there never = io never
  own_as role.Ended is there never = absurd cc

  own : ready_at p ≡ Some execution → is_cut_off number t.queues ≡ false → is_for_device number entry t.queues ≡ false → Own (served number t)
  own ready there never =
      subst (λ (o : Option Execution). Own (served_by o number t)) (sym ready) (own_as (role_at number t.queues.associations) refl there never)

-- ---- what a device replies to a command

abbrev pub Fits : Reply → State → Type 0
Fits (reply.Complete queue completion length) s = Unit {0}
Fits (reply.Pending run) s = (run < length s.places) × (is_none (get_or s.places run None) ≡ true)
Fits reply.Idle s = ⊥
Fits reply.FaultTaken s = ⊥
Fits reply.FaultRefused s = ⊥

module _ (sub : Submission) (s : State) where
  each : HoldsOfEach interval_judge (λ (h : Happening). Fits h.reply.reply s) sub s
  each = record {
    unchanged = λ status output other. tt;
    standard = λ c asked. tt;
    load = λ load h asked is. subst (λ (r : ReplyWithData). Fits r.reply s) (sym is.answered.is) tt;
    start = λ command run asked passes at. (let found = position-Some is_none s.places run None at in (found.0, found.1));
  }

pub entry_fits : (starved : Bool) (queue : ℕ) (entry input : List ℕ) (s : State)
    → Fits (happens interval_judge s starved (told.Submitted queue entry input)).reply.reply s
entry_fits starved queue entry input s =
    let sub = submission_of queue entry input in of_entry interval_judge (λ (h : Happening). Fits h.reply.reply s) sub s (each sub s) starved

-- ---- a service

some_is : (b : Bool) (o : Option Execution) → is_some (cond b o None) ≡ true → cond b o None ≡ o
some_is true o is = refl
some_is false o is = absurd cc

module _ (number : ℕ) (execution : Execution) (old new : ServedState) (n : IsNext execution (device_place number old)) where
  abbrev here : PlaceState
  here = device_place number old

  ready_now : is_some (ready_at here) ≡ true → ready_at here ≡ Some execution
  ready_now some =
      some_is (goes_on here) (cond (is_ended here.connection.phase) None (waiting_ready here.connection)) some
      ∙ ap (λ (phase : Phase). cond (is_ended phase) None (waiting_ready here.connection)) n.initialized ∙ n.ready

  executed_by : Own number execution old.target n (served number old.target) → IsExecuted number execution old (with_target (served number old.target) old)
  executed_by (inl ends) = is_completed ends.0 ends.1 ends.2
  executed_by (inr keeps) = is_kept keeps.0 keeps.1 keeps.2

  abbrev between : TargetState
  between = target.handed_over number old.target

  open_between : (place_at number between.queues).is_open ≡ true
  open_between = ap (λ (q : PlaceState). q.is_open) (there number execution old.target n (handed_over here)) ∙ n.is_open

  completes_at : (command : ℕ) (outcome : Outcome) (bytes : List ℕ)
      → place_at number (with_place number (executed command outcome bytes (place_at number between.queues)) between.queues)
      ≡ executed command outcome bytes (handed_over here)
  completes_at command outcome bytes =
      get_or-set_same between.queues.places number (executed command outcome bytes (place_at number between.queues)) vacant
      (within number between open_between)
      ∙ ap (executed command outcome bytes) (there number execution old.target n (handed_over here))

  by_reply : (r : Reply) (bytes : List ℕ) → HasPlaces old → Fits r old.device → new.target ≡ completed_by r bytes number execution.entry between
      → new.pending ≡ kept_by r number execution.entry old.pending → IsAnswered r bytes number execution old new
  by_reply (reply.Complete queue entry length) bytes places fits is pending =
      let r = result_of execution.entry (outcome_in entry) bytes in
      subst (λ (q : PlaceState). IsCompleted (identifier_of execution.entry) r.0 r.1 here q)
      (sym (ap (λ (t : TargetState). place_at number t.queues) is ∙ completes_at (identifier_of execution.entry) r.0 r.1))
      (executes_at execution here n r.0 r.1)
  by_reply (reply.Pending run) bytes places fits is pending = (
    ap (λ (all : List (Option CommandOfRun)). slice_index_or all run None) pending
        ∙ get_or-set_same old.pending run (Some (record { connection = number; command = identifier_of execution.entry })) None
        (subst (λ (size : ℕ). run < size) places fits.0),
    subst (λ (q : PlaceState). IsAwaited (identifier_of execution.entry) q)
        (sym (ap (λ (t : TargetState). place_at number t.queues) is ∙ there number execution old.target n (handed_over here)))
        (record { is_open = n.is_open; alignment = n.alignment; initialized = open_still execution here n; executed = runs execution here n }),
  )
  by_reply reply.Idle bytes places fits is pending = fits
  by_reply reply.FaultTaken bytes places fits is pending = fits
  by_reply reply.FaultRefused bytes places fits is pending = fits

  not_for : (b : Bool) → cond b (Some execution) None ≡ None → b ≡ false
  not_for true is = absurd cc
  not_for false is = refl

  given_by_both : (o : Option Execution) → o ≡ Some execution → given_by o number old.target.queues ≡ None → is_for_device number execution.entry old.target.queues ≡ false
  given_by_both o ready is =
      not_for (is_for_device number execution.entry old.target.queues)
      (sym (ap (λ (found : Option Execution). given_by found number old.target.queues) ready) ∙ is)

  by_given : HasPlaces old → ready_at here ≡ Some execution → is_cut_off number old.target.queues ≡ false → (given : Option Execution)
      → given_to_device number old.target.queues ≡ given → (done : ServesGiven given number old new) → IsDone given number execution old new done
  by_given places ready there None is done =
      subst (λ (s : ServedState). IsExecuted number execution old s) (sym done)
      (executed_by (own number execution old.target n ready there (given_by_both (ready_at here) ready is)))
  by_given places ready there (Some other) is done =
      let found_other : ready_at here ≡ Some other = ready_given number old.target.queues other (ready_at here) is in
      let same : other ≡ execution = cc in
      let happened = done.taken.happened in
      let fits : Fits done.reply.reply old.device =
      subst (λ (r : ReplyWithData). Fits r.reply old.device) (sym happened.replied)
      (entry_fits happened.starved number other.entry done.taken.carried.items old.device) in (
        same,
        by_reply done.reply.reply done.reply.bytes places fits
            (ap (λ (s : ServedState). s.target) done.rest
            ∙ ap (λ (it : Execution). completed_by done.reply.reply done.reply.bytes number it.entry between) same)
            (ap (λ (s : ServedState). s.pending) done.rest
            ∙ ap (λ (it : Execution). kept_by done.reply.reply number it.entry old.pending) same),
      )

  not_cut : (b : Bool) → not b ≡ true → b ≡ false
  not_cut true is = absurd cc
  not_cut false is = refl

  pub answers : HasPlaces old → is_ready number old.target ≡ true → (done : Does (Served number) old new)
      → IsDone (given_to_device number old.target.queues) number execution old new done
  answers places is done =
      let parts = and_parts (is_some (ready_at here)) (not (is_cut_off number old.target.queues)) is in
      by_given places (ready_now parts.0) (not_cut (is_cut_off number old.target.queues) parts.1) (given_to_device number old.target.queues) refl done

-- ---- the end of a run

module _ (c : CommandOfRun) (old new : ServedState) (a : IsAwaited c.command (device_place c.connection old)) where
  abbrev waits : PlaceState
  waits = device_place c.connection old

  ends_at : (outcome : Outcome) → IsCompleted c.command outcome [] waits (place_at c.connection (target.run_ended c.connection c.command outcome old.target).queues)
  ends_at outcome =
      let q : PlaceState = returned waits in
      subst (λ (it : PlaceState). IsCompleted c.command outcome [] waits it)
      (sym (get_or-set_same old.target.queues.places c.connection (executed c.command outcome [] waits) vacant (within c.connection old.target a.is_open)))
      (completes c.command outcome [] [] waits.connection a.alignment waits (executed c.command outcome [] waits) a.initialized a.executed
      (ap (λ (b : Bool). (cond b (completed_at c.command outcome [] q) q).unsent) a.is_open))

  ends_with : (r : Reply) (u : TargetState) → new.target ≡ u → u ≡ ended_by r (Some c) old.target → IsEndedBy r c old new
  ends_with (reply.Complete queue completion length) u is ended =
      subst (λ (t : TargetState). IsCompleted c.command (outcome_in completion) [] waits (place_at c.connection t.queues)) (sym (is ∙ ended))
      (ends_at (outcome_in completion))
  ends_with (reply.Pending run) u is ended = tt
  ends_with reply.Idle u is ended = tt
  ends_with reply.FaultTaken u is ended = tt
  ends_with reply.FaultRefused u is ended = tt

  ends_given : (run : Option ℕ) (done : TurnsGiven run old new) → IsTurned run c old new done
  ends_given None done = tt
  ends_given (Some run) done = λ is.
      ends_with done.reply.reply _ (ap (λ (s : ServedState). s.target) done.rest)
      (ap (λ (o : Option CommandOfRun). ended_by done.reply.reply o old.target) is)

  pub ends_run : (done : Does Turned old new) → IsTurned (next_run old) c old new done
  ends_run done = ends_given (next_run old) done
