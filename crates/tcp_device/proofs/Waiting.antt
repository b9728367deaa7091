-- No run waits for a host to read.
use Rattle.std.proofs.Common.{◌≡◌, ℕ, ◌≤◌, true, List, [], ◌∷◌, length, get_or, Option, None, Some, refl, sym, ap, subst, inl, inr, arith}
use Rattle.std.specs.Prelude.{is_some, slice_index_or}
use Rattle.device_events.specs.declared.reply.Reply.{Reply}
use Rattle.device_events.specs.declared.reply.Reply.TheVariants as reply
use Rattle.device_meaning.specs.State.{State}
use Rattle.tcp_pdus.specs.Direction.{identifier_of}
use Rattle.tcp_pdus.specs.Laws.{DataBeginsAligned}
use Rattle.tcp_connection.specs.declared.queue.Outcome.{Outcome}
use Rattle.tcp_connection.specs.Executing.{Execution}
use Rattle.tcp_admin.specs.Admin.{response}
use Rattle.tcp_admin.specs.Laws.{IsSubsystem, StructuresAreWhole}
use Rattle.tcp_admin.specs.declared.subsystem.NamespaceFormat.{NamespaceFormat}
use Rattle.tcp_admin.specs.declared.subsystem.Subsystem.{Subsystem}
use Rattle.tcp_target.specs.Associations.{role_at}
use Rattle.tcp_target.specs.QueueCommands.{given_to_device, result_of}
use Rattle.tcp_target.specs.PlaceEvents.{answered_at, connected_at, executed, handed_over, kept, opened}
use Rattle.tcp_target.specs.PlaceEvents as places
use Rattle.tcp_target.specs.Places.{PlaceState, ready_at}
use Rattle.tcp_target.specs.Queues.{QueuesState, free_number, opened_at, place_at, received_at, sent_at, with_place}
use Rattle.tcp_target.specs.Commands.{served, served_as, served_by}
use Rattle.tcp_target.specs.Events.{count_of, heard_at}
use Rattle.tcp_target.specs.Events as target
use Rattle.tcp_target.specs.Laws.{ConnectionsStay}
use Rattle.tcp_target.specs.Target.{TargetState, controller_at, with_queues}
use Rattle.tcp_target.specs.Time.{ticked}
use Rattle.tcp_target.proofs.Fine.{here}
use Rattle.tcp_target.proofs.Ticking.{opened_queues, taken_queues, ticked_queues}
use Rattle.tcp_device.specs.Counting.{RunsAreCounted}
use Rattle.tcp_device.specs.Deeds.{AreDone, Closed, Deed, Does, Opened, Received, Resumed, Sent, Served, Ticked, Turned}
use Rattle.tcp_device.specs.Outcome.{outcome_in}
use Rattle.tcp_device.specs.Served.{ResumesGiven, ServesGiven, TurnsGiven, can_go, completed_by, ended_by, next_run}
use Rattle.tcp_device.specs.State.{CommandOfRun, ServedState, begun_on}
use Rattle.tcp_device.specs.Turning.{AtTurns, HasRuns, MayGo, may_go}
use Rattle.tcp_device.specs.Waiting.{IsPending, IsReached, RunsGoOn, is_pending}
use Rattle.tcp_device.proofs.AdminData.{admin_few}
use Rattle.tcp_device.proofs.Counting.{heard_at_queues, runs_are_counted, some_of}
use Rattle.tcp_device.proofs.AlwaysRoom.{AllKeepRoom, GoesOn, WasHandedOver, all_keep_room_first, answers, closes, connects, ends, executes, goes_as_handed, goes_where, hands_over, keeps, keeps_handed, opens, receives, result_few, room_put, room_there, sends}
use Rattle.tcp_device.proofs.Reached.{ready_given, reached}
use Rattle.tcp_device.proofs.Serving.{IsGiven, serves_as}
use Rattle.tcp_device.proofs.Taking.{AllStand, all_stand_first, stay}
use Rattle.tcp_device.proofs.Texts.{texts_stay}
use Rattle.tcp_device.proofs.Turning.{runs_take_turns}

abbrev Room : TargetState → Type 0
Room t = AllKeepRoom t.queues

-- a target from the beginning on, and what is known of it besides
record Known (s : ServedState) : Type 0 where
  stands : AllStand s.target.queues
  texts : IsSubsystem s.target.subsystem
  counted : RunsAreCounted s

-- ---- what the target does by itself

by_queues : (q r : QueuesState) → q ≡ r → AllKeepRoom r → AllKeepRoom q
by_queues q r is all = subst AllKeepRoom (sym is) all

opens_at : (n : Option ℕ) (q : QueuesState) → AllKeepRoom q → AllKeepRoom (opened_at n q)
opens_at None q all = all
opens_at (Some n) q all = room_put n (opened (place_at n q)) q (opened_at (Some n) q) refl all (opens (place_at n q) (all n))

module _ (whole : StructuresAreWhole) (number : ℕ) (execution : Execution) (t : TargetState) (texts : IsSubsystem t.subsystem) (all : Room t)
    (is : ready_at (place_at number t.queues) ≡ Some execution) where
  abbrev p : PlaceState
  p = place_at number t.queues

  abbrev entry : List ℕ
  entry = execution.entry

  on : GoesOn p
  on = goes_where p execution is

  given_few : (bytes : List ℕ) → IsGiven entry t bytes → length bytes ≤ 131072
  given_few bytes (inl none) = (let few : length bytes ≡ 0 = ap length none in omega (arith, few))
  given_few bytes (inr given) =
      (let few = admin_few whole entry t.subsystem t.format texts (controller_at given.0 t) in
      let same : length bytes ≡ length (response entry t.subsystem t.format (controller_at given.0 t)).«data» = ap length given.1 in
      omega (arith, few, same))

  serves_one : Room (served_as (role_at number t.queues.associations) number entry t)
  serves_one =
      serves_as AllKeepRoom number entry t all
      (λ outcome bytes r given same. room_put number (answered_at (identifier_of entry) outcome bytes p) t.queues r same all
      (answers (identifier_of entry) outcome bytes p on (all number) (given_few bytes given)))
      (λ queue in_capsule outcome r same. room_put number (connected_at queue in_capsule (identifier_of entry) outcome p) t.queues r same all
      (connects queue in_capsule (identifier_of entry) outcome p on (all number)))
      (λ r same. room_put number (kept p) t.queues r same all (keeps p on (all number)))
      (role_at number t.queues.associations)

  -- it goes to the device,
  abbrev between : TargetState
  between = target.handed_over number t

  there : WasHandedOver (place_at number between.queues)
  there =
      here number (handed_over p) t.queues between.queues refl WasHandedOver (hands_over p on (all number)) (goes_as_handed p on (all number))

  hands : Room between
  hands = room_put number (handed_over p) t.queues between.queues refl all (keeps_handed (handed_over p) (hands_over p on (all number)))

  -- which completes it at once, or later
  device_completes : (r : Reply) (bytes : List ℕ) → length bytes ≤ 131072 → Room (completed_by r bytes number entry between)
  device_completes (reply.Complete queue completion length) bytes few =
      let o = outcome_in completion in
      let r = result_of entry o bytes in
      let q : PlaceState = place_at number between.queues in
      let after : PlaceState = executed (identifier_of entry) r.0 r.1 q in
      room_put number after between.queues (with_place number after between.queues) refl hands
      (executes (identifier_of entry) r.0 r.1 q there (result_few entry o bytes few))
  device_completes (reply.Pending run) bytes few = hands
  device_completes reply.Idle bytes few = hands
  device_completes reply.FaultTaken bytes few = hands
  device_completes reply.FaultRefused bytes few = hands

serves_by : StructuresAreWhole → (number : ℕ) (t : TargetState) → IsSubsystem t.subsystem → Room t → (o : Option Execution)
    → ready_at (place_at number t.queues) ≡ o → Room (served_by o number t)
serves_by whole number t texts all None is = all
serves_by whole number t texts all (Some execution) is = serves_one whole number execution t texts all is

receives_at : DataBeginsAligned → (number : ℕ) (piece : List ℕ) (t : TargetState) → AllStand t.queues → Room t → Room (target.received number piece t)
receives_at aligned number piece t stands all =
    let u : TargetState = with_queues (received_at number piece t.queues) t in
    by_queues _ u.queues (heard_at_queues number (count_of number piece t) u)
    (room_put number (places.received piece (place_at number t.queues)).0 t.queues u.queues refl all
    (receives aligned piece (place_at number t.queues) (stands number) (all number)))

sends_at : (number count : ℕ) (t : TargetState) → Room t → Room (target.sent number count t)
sends_at number count t all =
    let r : QueuesState = sent_at number count t.queues in
    by_queues _ r (taken_queues number count (with_queues r t))
    (room_put number (places.sent count (place_at number t.queues)) t.queues r refl all (sends count (place_at number t.queues) (all number)))

-- ---- deeds

module _ (aligned : DataBeginsAligned) (whole : StructuresAreWhole) (old new : ServedState) (known : Known old) (all : Room old.target) where
  by : (t : TargetState) → new.target ≡ t → Room t → Room new.target
  by t is so = subst Room (sym is) so

  serves : (number : ℕ) (given : Option Execution) → given_to_device number old.target.queues ≡ given → ServesGiven given number old new → Room new.target
  serves number None is done =
      by (served number old.target) (ap (λ (s : ServedState). s.target) done)
      (serves_by whole number old.target known.texts all (ready_at (place_at number old.target.queues)) refl)
  serves number (Some execution) is done =
      let ready = ready_given number old.target.queues execution (ready_at (place_at number old.target.queues)) is in
      by _ (ap (λ (s : ServedState). s.target) done.rest)
      (device_completes whole number execution old.target known.texts all ready done.reply.reply done.reply.bytes done.few)

  -- the end of a run completes its command, which the device had
  ends_run : (run : ℕ) (c : CommandOfRun) (outcome : Outcome) → get_or old.pending run None ≡ Some c
      → Room (target.run_ended c.connection c.command outcome old.target)
  ends_run run c outcome is =
      let q : PlaceState = place_at c.connection old.target.queues in
      let count = known.counted.count c.connection in
      let some = some_of old.pending run c is in
      let after : PlaceState = executed c.command outcome [] q in
      room_put c.connection after old.target.queues (with_place c.connection after old.target.queues) refl all
      (ends c.command outcome q (omega (arith, count, some)) (all c.connection))

  ends_by : (r : Reply) (run : ℕ) (command : Option CommandOfRun) → get_or old.pending run None ≡ command → Room (ended_by r command old.target)
  ends_by (reply.Complete queue completion length) run None is = all
  ends_by (reply.Complete queue completion length) run (Some c) is = ends_run run c (outcome_in completion) is
  ends_by (reply.Pending number) run command is = all
  ends_by reply.Idle run command is = all
  ends_by reply.FaultTaken run command is = all
  ends_by reply.FaultRefused run command is = all

  turns : (run : Option ℕ) → TurnsGiven run old new → Room new.target
  turns None done = by old.target (ap (λ (s : ServedState). s.target) done) all
  turns (Some run) done =
      by _ (ap (λ (s : ServedState). s.target) done.rest) (ends_by done.reply.reply run (get_or old.pending run None) refl)

  resumes : (command : Option CommandOfRun) (run : ℕ) → ResumesGiven command run old new → Room new.target
  resumes None run done = by old.target (ap (λ (s : ServedState). s.target) done.rest) all
  resumes (Some command) run done = by old.target (ap (λ (s : ServedState). s.target) done) all

  keeps_room : (deed : Deed) → Does deed old new → Room new.target
  keeps_room Opened done =
      let n : Option ℕ = free_number old.target.queues in
      by (target.opened old.target) (ap (λ (s : ServedState). s.target) done)
      (by_queues _ (opened_at n old.target.queues) (opened_queues n (with_queues (opened_at n old.target.queues) old.target))
      (opens_at n old.target.queues all))
  keeps_room (Received number piece) done =
      by (target.received number piece old.target) (ap (λ (s : ServedState). s.target) done)
      (receives_at aligned number piece old.target known.stands all)
  keeps_room (Sent number count) done =
      by (target.sent number count old.target) (ap (λ (s : ServedState). s.target) done) (sends_at number count old.target all)
  keeps_room (Closed number) done =
      by (target.closed number old.target) (ap (λ (s : ServedState). s.target) done)
      (room_put number (places.closed (place_at number old.target.queues)) old.target.queues (target.closed number old.target).queues refl all
      (closes (place_at number old.target.queues) (all number)))
  keeps_room (Ticked milliseconds) done =
      by (ticked milliseconds old.target) (ap (λ (s : ServedState). s.target) done)
      (by_queues _ old.target.queues (ticked_queues milliseconds old.target) all)
  keeps_room (Served number) done = serves number (given_to_device number old.target.queues) refl done
  keeps_room Turned done = turns (next_run old) done
  keeps_room (Resumed run) done = resumes (get_or old.pending run None) run done

-- ---- from the beginning on

module _ (law : ConnectionsStay) (aligned : DataBeginsAligned) (whole : StructuresAreWhole) where
  module _ (device : State) (subsystem : Subsystem) (format : NamespaceFormat) (eight : length device.places ≡ 8) (texts : IsSubsystem subsystem) where
    abbrev first : ServedState
    first = begun_on device subsystem format

    known : (deeds : List Deed) (s : ServedState) → AreDone deeds first s → Known s
    known deeds s done = record {
      stands = reached (λ t. AllStand t.queues) stay deeds first s done all_stand_first;
      texts = reached (λ t. IsSubsystem t.subsystem) texts_stay deeds first s done texts;
      counted = runs_are_counted law device subsystem format deeds s eight done;
    }

    all_keep_room : (deeds : List Deed) (s : ServedState) → AreDone deeds first s → Room s.target
    all_keep_room [] s done = subst (λ (it : ServedState). Room it.target) (sym done) all_keep_room_first
    all_keep_room (deed ∷ deeds) s done =
        keeps_room aligned whole done.between s (known deeds done.between done.first) (all_keep_room deeds done.between done.first) deed done.last

  goes_if : (s : ServedState) → Room s.target → (command : Option CommandOfRun) → is_some command ≡ true → can_go s.target command ≡ true
  goes_if s all None is = absurd cc
  goes_if s all (Some c) is = room_there (place_at c.connection s.target.queues) (all c.connection)

  go : (run : ℕ) (s : ServedState) → IsReached s → is_pending run s ≡ true → may_go run s ≡ true
  go run s r is =
      goes_if s (all_keep_room r.device r.subsystem r.format r.places r.texts r.deeds s r.done) (slice_index_or s.pending run None) is

  -- deeds lead to further states
  joined : (deeds : List Deed) (old new : ServedState) → AreDone deeds old new → IsReached old → IsReached new
  joined [] old new done r = subst IsReached (sym done) r
  joined (deed ∷ deeds) old new done r =
      let b = joined deeds old done.between done.first r in record {
        device = b.device;
        subsystem = b.subsystem;
        format = b.format;
        deeds = deed ∷ b.deeds;
        places = b.places;
        texts = b.texts;
        done = record { between = done.between; first = b.done; last = done.last };
      }

  may_by : (run : ℕ) (earlier : List Deed) (deed : Deed) (s : ServedState) → IsReached s → AtTurns (λ t. is_pending run t ≡ true) earlier deed s
      → AtTurns (λ t. may_go run t ≡ true) earlier deed s
  may_by run earlier Opened s r is = tt
  may_by run earlier (Received number piece) s r is = tt
  may_by run earlier (Sent number count) s r is = tt
  may_by run earlier (Closed number) s r is = tt
  may_by run earlier (Ticked milliseconds) s r is = tt
  may_by run earlier (Served number) s r is = tt
  may_by run earlier Turned s r is = go run s r is
  may_by run earlier (Resumed other) s r is = tt

  may : (run : ℕ) (deeds : List Deed) (old new : ServedState) (done : AreDone deeds old new) → IsReached old → IsPending run deeds old new done
      → MayGo run deeds old new done
  may run [] old new done r is = tt
  may run (deed ∷ deeds) old new done r is = (
    may run deeds old done.between done.first r is.0,
    may_by run deeds deed done.between (joined deeds old done.between done.first r) is.1,
  )

  has_runs : (deeds : List Deed) (old new : ServedState) → AreDone deeds old new → HasRuns old → HasRuns new
  has_runs [] old new done has = subst HasRuns (sym done) has
  has_runs (deed ∷ deeds) old new done has =
      runs_take_turns.stay deed done.between new done.last (has_runs deeds old done.between done.first has)

  pub runs_go_on : RunsGoOn
  runs_go_on = record {
    go = go;
    turns = λ run deeds old new done low r is.
        runs_take_turns.turns run low deeds old new done
        (has_runs r.deeds (begun_on r.device r.subsystem r.format) old r.done (runs_take_turns.begin r.device r.subsystem r.format))
        (may run deeds old new done r is);
  }
