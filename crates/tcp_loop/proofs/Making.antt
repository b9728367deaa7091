-- Operations that move no bytes of connections, and what holds once they are made.
use Rattle.std.proofs.Common.{◌≡◌, ◌<◌, ℕ, true, false, if◌then◌else◌, List, ◌∷◌, ◌++◌, refl, sym, subst, ◌∙◌, arith}
use Rattle.std.specs.Prelude.{Bool, Option, None, Some, []}
use Rattle.std.proofs.lemmas.List.{append-nil}
use Rattle.stored_file.specs.Calls as calls
use Rattle.tcp_loop.specs.Trace.{Made, Trace}
use Rattle.tcp_loop.specs.Sockets.{came_on, life_on, written_on}
use Rattle.tcp_loop.specs.Disk.{calls_by, calls_of, is_done, new_file, new_file_by, seen_after}
use Rattle.tcp_loop.specs.Deeds.{Deed, Meaning}
use Rattle.tcp_loop.specs.Keeping.{KeptState, wanted_by}
use Rattle.tcp_loop.specs.Kept.{Attending, Called, Committing, Due, IsKept, Phase, Placing, Resting, Settled, Stopped, after_call, after_part, not_made, phase_after, phase_of}
use Rattle.tcp_loop.specs.Attended.{AreRounds}
use Rattle.tcp_loop.specs.Clock.{time_of, time_told}
use Rattle.tcp_loop.specs.Times.{counted, ticked, was_for_file}
use Rattle.tcp_loop.specs.Timed.{IsCounted, IsSkipped, IsTimed}
use Rattle.tcp_loop.specs.declared.clock.Clock.{Clock}
use Rattle.tcp_loop.specs.Holding.{Carries, HasReached, Holds}
use Rattle.tcp_loop.specs.Stages.{is_quiet, operation_of, operation_of_call, operation_of_part}
use Rattle.tcp_loop.specs.declared.operation.Answer.{Answer}
use Rattle.tcp_loop.specs.declared.operation.Answer.TheVariants as answer
use Rattle.tcp_loop.specs.declared.operation.Operation.TheVariants as operation
use Rattle.tcp_loop.specs.declared.operation.Watched.{Watched}
use Rattle.tcp_loop.specs.declared.stage.Part.{Part}
use Rattle.tcp_loop.specs.declared.stage.Part.TheVariants as part
use Rattle.tcp_loop.specs.declared.stage.Stage.{Stage}
use Rattle.tcp_loop.specs.declared.stage.Stage.TheVariants as stage
use Rattle.tcp_loop.specs.declared.target.Call.{Call}
use Rattle.tcp_loop.specs.declared.target.Call.TheVariants as call
use Rattle.tcp_loop.proofs.Attending.{made_in_round}
use Rattle.tcp_loop.proofs.Keeping.{called, placed}
use Rattle.tcp_loop.proofs.Timing.{timed_attended, timed_call, timed_counted, timed_due, timed_lost, timed_part, timed_skipped}
use Rattle.tcp_loop.proofs.Lists.{at_places}

-- ---- what an operation for the file says of connections, and of time

-- nothing: no bytes come, none are written, and none begins or is closed
pub record IsApart (place : ℕ) (x : Made) (trace : Trace) : Type 0 where
  pub came : came_on place (x ∷ trace) ≡ came_on place trace
  pub written : written_on place (x ∷ trace) ≡ written_on place trace
  pub lives : life_on place (x ∷ trace) ≡ life_on place trace

-- and it is an operation for the file
record IsForFile (x : Made) (trace : Trace) : Type 0 where
  counts : counted (x ∷ trace) ≡ counted trace
  for_file : was_for_file (x ∷ trace) ≡ true
  time : time_of (x ∷ trace) ≡ time_of trace

module _ (place : ℕ) (carried came : List ℕ) (a : Answer) (trace : Trace) where
  call_apart : (next : Call) → IsApart place (record { asked = operation_of_call next; carried = carried; answer = a; came = came }) trace
  call_apart (call.Write «at») = record { came = append-nil _; written = append-nil _; lives = refl }
  call_apart (call.Renew «at») = record { came = append-nil _; written = append-nil _; lives = refl }
  call_apart (call.Shorten len) = record { came = append-nil _; written = append-nil _; lives = refl }
  call_apart call.Sync = record { came = append-nil _; written = append-nil _; lives = refl }
  call_apart call.Replace = record { came = append-nil _; written = append-nil _; lives = refl }
  call_apart call.Want = record { came = append-nil _; written = append-nil _; lives = refl }

  part_apart : (next : Part) → IsApart place (record { asked = operation_of_part next; carried = carried; answer = a; came = came }) trace
  part_apart (part.Made wants) = record { came = append-nil _; written = append-nil _; lives = refl }
  part_apart (part.Filled wants) = record { came = append-nil _; written = append-nil _; lives = refl }
  part_apart (part.Flushed wants) = record { came = append-nil _; written = append-nil _; lives = refl }
  part_apart part.Named = record { came = append-nil _; written = append-nil _; lives = refl }
  part_apart part.Placed = record { came = append-nil _; written = append-nil _; lives = refl }
  part_apart part.Discarded = record { came = append-nil _; written = append-nil _; lives = refl }

module _ (carried came : List ℕ) (a : Answer) (trace : Trace) where
  call_for_file : (next : Call) → IsForFile (record { asked = operation_of_call next; carried = carried; answer = a; came = came }) trace
  call_for_file (call.Write «at») = record { counts = refl; for_file = refl; time = refl }
  call_for_file (call.Renew «at») = record { counts = refl; for_file = refl; time = refl }
  call_for_file (call.Shorten len) = record { counts = refl; for_file = refl; time = refl }
  call_for_file call.Sync = record { counts = refl; for_file = refl; time = refl }
  call_for_file call.Replace = record { counts = refl; for_file = refl; time = refl }
  call_for_file call.Want = record { counts = refl; for_file = refl; time = refl }

  part_for_file : (next : Part) → IsForFile (record { asked = operation_of_part next; carried = carried; answer = a; came = came }) trace
  part_for_file (part.Made wants) = record { counts = refl; for_file = refl; time = refl }
  part_for_file (part.Filled wants) = record { counts = refl; for_file = refl; time = refl }
  part_for_file (part.Flushed wants) = record { counts = refl; for_file = refl; time = refl }
  part_for_file part.Named = record { counts = refl; for_file = refl; time = refl }
  part_for_file part.Placed = record { counts = refl; for_file = refl; time = refl }
  part_for_file part.Discarded = record { counts = refl; for_file = refl; time = refl }

-- nor is it a wait
module _ (carried came : List ℕ) (a : Answer) (trace : Trace) where
  call_goes_on : (next : Call) (rounds : List (List Deed)) → AreRounds trace rounds
      → AreRounds (record { asked = operation_of_call next; carried = carried; answer = a; came = came } ∷ trace) rounds
  call_goes_on (call.Write «at») rounds each = (tt, each)
  call_goes_on (call.Renew «at») rounds each = (tt, each)
  call_goes_on (call.Shorten len) rounds each = (tt, each)
  call_goes_on call.Sync rounds each = (tt, each)
  call_goes_on call.Replace rounds each = (tt, each)
  call_goes_on call.Want rounds each = (tt, each)

  part_goes_on : (next : Part) (rounds : List (List Deed)) → AreRounds trace rounds
      → AreRounds (record { asked = operation_of_part next; carried = carried; answer = a; came = came } ∷ trace) rounds
  part_goes_on (part.Made wants) rounds each = (tt, each)
  part_goes_on (part.Filled wants) rounds each = (tt, each)
  part_goes_on (part.Flushed wants) rounds each = (tt, each)
  part_goes_on part.Named rounds each = (tt, each)
  part_goes_on part.Placed rounds each = (tt, each)
  part_goes_on part.Discarded rounds each = (tt, each)

call_reached : (wanted : Option Bool) (ok : Bool) (trace : Trace) (round before : List Deed) → HasReached (after_call wanted ok) trace round before
call_reached None true trace round before = tt
call_reached None false trace round before = tt
call_reached (Some wants) ok trace round before = tt

not_made_reached : (wants : Bool) (trace : Trace) (round before : List Deed) → HasReached (not_made wants) trace round before
not_made_reached true trace round before = tt
not_made_reached false trace round before = tt

part_reached : (p : Part) (ok : Bool) (trace : Trace) (round before : List Deed) → HasReached (after_part p ok) trace round before
part_reached (part.Made wants) true trace round before = tt
part_reached (part.Filled wants) true trace round before = tt
part_reached (part.Flushed true) true trace round before = tt
part_reached (part.Flushed false) true trace round before = tt
part_reached part.Named true trace round before = tt
part_reached part.Placed true trace round before = tt
part_reached (part.Made wants) false trace round before = not_made_reached wants trace round before
part_reached (part.Filled wants) false trace round before = not_made_reached wants trace round before
part_reached (part.Flushed wants) false trace round before = not_made_reached wants trace round before
part_reached part.Named false trace round before = tt
part_reached part.Placed false trace round before = tt
part_reached part.Discarded ok trace round before = tt

-- what is counted goes on
timed_for_file : (phase : Phase) (x : Made) (trace : Trace) (t : ℕ) (clock : Clock) → IsForFile x trace
    → IsTimed phase (counted trace) t true (time_of trace) clock
    → IsTimed phase (counted (x ∷ trace)) t (was_for_file (x ∷ trace)) (time_of (x ∷ trace)) clock
timed_for_file phase x trace t clock is h = rw (is.counts, is.for_file, is.time) h

module _ {State : Type 0} (m : Meaning State) where
  -- one that moves no bytes and begins no connection
  pub made : (x : Made) (phase phase' : Phase) (opened : List calls.Call) (begun : State) (now : KeptState State) (trace : Trace)
      (waiting : List (List ℕ)) (clock : Clock) → ((place : ℕ) → place < 40 → IsApart place x trace)
      → ((rounds : List (List Deed)) → AreRounds trace rounds → AreRounds (x ∷ trace) rounds)
      → ((round before : List Deed) → HasReached phase' (x ∷ trace) round before) → (h : Holds m opened begun trace phase now waiting clock)
      → IsKept m phase' (calls_of opened (x ∷ trace)) (new_file (x ∷ trace)) now.file h.deeds begun now.state h.done
      → IsTimed phase' (counted (x ∷ trace)) (ticked h.deeds) (was_for_file (x ∷ trace)) (time_of (x ∷ trace)) clock
      → Holds m opened begun (x ∷ trace) phase' now waiting clock
  made x phase phase' opened begun now trace waiting clock apart goes_on reached h kept timed = record {
    deeds = h.deeds;
    done = h.done;
    received = λ place low. (apart place low).came ∙ h.received place low;
    written = λ place low. (apart place low).written ∙ h.written place low;
    lives = λ place low. (apart place low).lives ∙ h.lives place low;
    kept = kept;
    timed = timed;
    in_round = made_in_round x phase phase' trace h.deeds goes_on reached h.in_round;
  }

  -- one of these for a new file
  quiet_part : (next : Part) (carried came : List ℕ) (a : Answer) (opened : List calls.Call) (begun : State) (now : KeptState State)
      (trace : Trace) (waiting : List (List ℕ)) (clock : Clock) → carried ≡ now.file.bytes → Holds m opened begun trace (Placing next) now waiting clock
      → Holds m opened begun (record { asked = operation_of_part next; carried = carried; answer = a; came = came } ∷ trace)
      (phase_after (stage.Placing next) (is_done a)) now waiting clock
  quiet_part next carried came a opened begun now trace waiting clock carries h =
      let x : Made = record { asked = operation_of_part next; carried = carried; answer = a; came = came } in
      let phase : Phase = phase_after (stage.Placing next) (is_done a) in
      made x (Placing next) phase opened begun now trace waiting clock (λ place low. part_apart place carried came a trace next)
      (part_goes_on carried came a trace next) (λ round before. part_reached next (is_done a) _ round before) h
      (subst (λ (bytes : List ℕ). IsKept m phase
      (calls_by (operation_of_part next) (is_done a) bytes (new_file trace) (seen_after (calls_of opened trace)) ++ calls_of opened trace)
      (new_file_by (operation_of_part next) a bytes (new_file trace)) now.file h.deeds begun now.state h.done) (sym carries)
      (placed m (calls_of opened trace) (new_file trace) now.file h.deeds begun now.state h.done next a h.kept))
      (timed_for_file phase x trace (ticked h.deeds) clock (part_for_file carried came a trace next)
      (timed_part (counted trace) (ticked h.deeds) (was_for_file trace) (time_of trace) clock next (is_done a) h.timed))

  -- one for another call
  quiet_call : (next : Call) (carried came : List ℕ) (a : Answer) (opened : List calls.Call) (begun : State) (now : KeptState State)
      (trace : Trace) (waiting : List (List ℕ)) (clock : Clock) → carried ≡ now.file.bytes → Holds m opened begun trace (Committing next) now waiting clock
      → Holds m opened begun (record { asked = operation_of_call next; carried = carried; answer = a; came = came } ∷ trace)
      (phase_after (stage.Calling next) (is_done a)) now waiting clock
  quiet_call next carried came a opened begun now trace waiting clock carries h =
      let x : Made = record { asked = operation_of_call next; carried = carried; answer = a; came = came } in
      let phase : Phase = phase_after (stage.Calling next) (is_done a) in
      made x (Committing next) phase opened begun now trace waiting clock (λ place low. call_apart place carried came a trace next)
      (call_goes_on carried came a trace next) (λ round before. call_reached (wanted_by next) (is_done a) _ round before) h
      (subst (λ (bytes : List ℕ). IsKept m phase
      (calls_by (operation_of_call next) (is_done a) bytes (new_file trace) (seen_after (calls_of opened trace)) ++ calls_of opened trace)
      (new_file_by (operation_of_call next) a bytes (new_file trace)) now.file h.deeds begun now.state h.done) (sym carries)
      (called m (calls_of opened trace) (new_file trace) now.file h.deeds begun now.state h.done
      (new_file_by (operation_of_call next) a now.file.bytes (new_file trace)) next (is_done a) h.kept))
      (timed_for_file phase x trace (ticked h.deeds) clock (call_for_file carried came a trace next)
      (timed_call (counted trace) (ticked h.deeds) (was_for_file trace) (time_of trace) clock next (wanted_by next) (is_done a) h.timed))

  -- a wait ends a round
  waited : (watched : Watched) (milliseconds : ℕ) (carried came : List ℕ) (a : Answer) (opened : List calls.Call) (begun : State) (now : KeptState State)
      (trace : Trace) (waiting : List (List ℕ)) (clock : Clock) → Holds m opened begun trace (Attending 40) now waiting clock
      → Holds m opened begun (record { asked = operation.Poll watched milliseconds; carried = carried; answer = a; came = came } ∷ trace)
      Resting now waiting clock
  waited watched milliseconds carried came a opened begun now trace waiting clock h = record {
    deeds = h.deeds;
    done = h.done;
    received = λ place low. append-nil _ ∙ h.received place low;
    written = λ place low. append-nil _ ∙ h.written place low;
    lives = h.lives;
    kept = h.kept;
    timed = timed_attended (counted trace) (ticked h.deeds) (was_for_file trace) (time_of trace) clock 40 h.timed;
    in_round = record {
      attended = record {
        since = [];
        rounds = h.in_round.attended.since ∷ h.in_round.attended.rounds;
        all = h.in_round.attended.all;
        each = (record { turn = h.in_round.reached.0; connections = h.in_round.reached.1 }, h.in_round.attended.each);
      };
      reached = tt;
    };
  }

  pub quiet : (at_stage : Stage) (carried came : List ℕ) (a : Answer) (opened : List calls.Call) (begun : State) (now : KeptState State) (trace : Trace)
      (waiting : List (List ℕ)) (clock : Clock) → is_quiet at_stage ≡ true → Carries m at_stage now carried → Holds m opened begun trace (phase_of at_stage) now waiting clock
      → Holds m opened begun (record { asked = operation_of at_stage; carried = carried; answer = a; came = came } ∷ trace)
      (phase_after at_stage (is_done a)) now waiting clock
  quiet (stage.Polling watched milliseconds) carried came a opened begun now trace waiting clock is carries h =
      waited watched milliseconds carried came a opened begun now trace waiting clock h
  quiet stage.Signalled carried came a opened begun now trace waiting clock is carries h = made _ Resting Resting opened begun now trace waiting clock (λ p low. record { came = append-nil _; written = append-nil _; lives = refl }) (λ rounds each. (tt, each)) (λ round before. tt) h h.kept h.timed
  quiet (stage.Reading place) carried came a opened begun now trace waiting clock is carries h = absurd (cc)
  quiet stage.Timing carried came a opened begun now trace waiting clock is carries h = absurd (cc)
  quiet (stage.Calling next) carried came a opened begun now trace waiting clock is carries h = quiet_call next carried came a opened begun now trace waiting clock (carries.called next refl) h
  quiet (stage.Placing p) carried came a opened begun now trace waiting clock is carries h = quiet_part p carried came a opened begun now trace waiting clock (carries.placed p refl) h
  quiet stage.Called carried came a opened begun now trace waiting clock is carries h = absurd (cc)
  quiet (stage.Writing place) carried came a opened begun now trace waiting clock is carries h = absurd (cc)
  quiet (stage.Closing place) carried came a opened begun now trace waiting clock is carries h = absurd (cc)
  quiet (stage.Accepting place more) carried came a opened begun now trace waiting clock is carries h = absurd (cc)
  quiet (stage.Refusing more) carried came a opened begun now trace waiting clock is carries h = made _ Resting Resting opened begun now trace waiting clock (λ p low. record {
    came = append-nil _;
    written = append-nil _;
    lives = at_places 40 p (λ b. (if b then false ∷ life_on p trace else life_on p trace) ≡ life_on p trace)
        (λ here. absurd (omega (arith, low, here))) (λ there. refl);
  }) (λ rounds each. (tt, each)) (λ round before. tt) h h.kept h.timed
  quiet (stage.Telling cause true) carried came a opened begun now trace waiting clock is carries h = made _ Stopped Stopped opened begun now trace waiting clock (λ p low. record { came = append-nil _; written = append-nil _; lives = refl }) (λ rounds each. (tt, each)) (λ round before. tt) h h.kept h.timed
  quiet (stage.Telling cause false) carried came a opened begun now trace waiting clock is carries h = made _ Resting Resting opened begun now trace waiting clock (λ p low. record { came = append-nil _; written = append-nil _; lives = refl }) (λ rounds each. (tt, each)) (λ round before. tt) h h.kept h.timed
  quiet (stage.Ended done) carried came a opened begun now trace waiting clock is carries h = made _ Stopped Stopped opened begun now trace waiting clock (λ p low. record { came = append-nil _; written = append-nil _; lives = refl }) (λ rounds each. (tt, each)) (λ round before. tt) h h.kept h.timed

  -- an answer that tells no time changes nothing
  record TellsNone (a : Answer) (carried came : List ℕ) (trace : Trace) : Type 0 where
    apart : (place : ℕ) → IsApart place (record { asked = operation.Now; carried = carried; answer = a; came = came }) trace
    counts : counted (record { asked = operation.Now; carried = carried; answer = a; came = came } ∷ trace) ≡ counted trace
    for_file : was_for_file (record { asked = operation.Now; carried = carried; answer = a; came = came } ∷ trace) ≡ was_for_file trace
    time : time_of (record { asked = operation.Now; carried = carried; answer = a; came = came } ∷ trace) ≡ time_of trace

  tells_none : (a : Answer) (carried came : List ℕ) (trace : Trace) → time_told a ≡ None → TellsNone a carried came trace
  tells_none answer.Done carried came trace none = record { apart = λ place. record { came = append-nil _; written = append-nil _; lives = refl }; counts = refl; for_file = refl; time = refl }
  tells_none answer.Came carried came trace none = record { apart = λ place. record { came = append-nil _; written = append-nil _; lives = refl }; counts = refl; for_file = refl; time = refl }
  tells_none (answer.Taken count) carried came trace none = record { apart = λ place. record { came = append-nil _; written = append-nil _; lives = refl }; counts = refl; for_file = refl; time = refl }
  tells_none answer.Again carried came trace none = record { apart = λ place. record { came = append-nil _; written = append-nil _; lives = refl }; counts = refl; for_file = refl; time = refl }
  tells_none answer.NoRoom carried came trace none = record { apart = λ place. record { came = append-nil _; written = append-nil _; lives = refl }; counts = refl; for_file = refl; time = refl }
  tells_none answer.Failed carried came trace none = record { apart = λ place. record { came = append-nil _; written = append-nil _; lives = refl }; counts = refl; for_file = refl; time = refl }
  tells_none (answer.Happened ready) carried came trace none = record { apart = λ place. record { came = append-nil _; written = append-nil _; lives = refl }; counts = refl; for_file = refl; time = refl }
  tells_none (answer.Signal ends) carried came trace none = record { apart = λ place. record { came = append-nil _; written = append-nil _; lives = refl }; counts = refl; for_file = refl; time = refl }
  tells_none (answer.Time now) carried came trace none = cc

  -- what is counted stays where none is told
  timed_none : (phase : Phase) (a : Answer) (carried came : List ℕ) (trace : Trace) (t : ℕ) (clock : Clock) → TellsNone a carried came trace
      → IsTimed phase (counted trace) t (was_for_file trace) (time_of trace) clock
      → IsTimed phase (counted (record { asked = operation.Now; carried = carried; answer = a; came = came } ∷ trace)) t (was_for_file (record { asked = operation.Now; carried = carried; answer = a; came = came } ∷ trace)) (time_of (record { asked = operation.Now; carried = carried; answer = a; came = came } ∷ trace)) clock
  timed_none phase a carried came trace t clock is h = rw (is.counts, is.for_file, is.time) h

  -- the time is told at which hosts were read
  module _ (carried came : List ℕ) (opened : List calls.Call) (begun : State) (now : KeptState State) (trace : Trace)
      (waiting : List (List ℕ)) (clock clock' : Clock) where
    none_at : (a : Answer) → time_told a ≡ None → clock' ≡ clock → Holds m opened begun trace Resting now waiting clock
        → Holds m opened begun (record { asked = operation.Now; carried = carried; answer = a; came = came } ∷ trace) Due now waiting clock'
    none_at a none is h =
        let told = tells_none a carried came trace none in
        subst (λ (k : Clock). Holds m opened begun (record { asked = operation.Now; carried = carried; answer = a; came = came } ∷ trace) Due now waiting k) (sym is)
        (made _ Resting Due opened begun now trace waiting clock (λ place low. told.apart place) (λ rounds each. (tt, each)) (λ round before. tt) h h.kept
        (timed_none Due a carried came trace (ticked h.deeds) clock told
        (timed_due (counted trace) (ticked h.deeds) (was_for_file trace) (time_of trace) clock h.timed)))

    pub timed_at : (a : Answer) → IsCounted (time_told a) clock clock' → Holds m opened begun trace Resting now waiting clock
        → Holds m opened begun (record { asked = operation.Now; carried = carried; answer = a; came = came } ∷ trace) Due now waiting clock'
    timed_at (answer.Time time) is h = record {
      deeds = h.deeds;
      done = h.done;
      received = λ place low. append-nil _ ∙ h.received place low;
      written = λ place low. append-nil _ ∙ h.written place low;
      kept = h.kept;
      lives = h.lives;
      timed = timed_counted (counted trace) (ticked h.deeds) (was_for_file trace) (time_of trace) time clock clock' is.0 is.1 h.timed;
      in_round = made_in_round _ Resting Due trace h.deeds (λ rounds each. (tt, each)) (λ round before. tt) h.in_round;
    }
    timed_at answer.Done is h = none_at answer.Done refl is h
    timed_at answer.Came is h = none_at answer.Came refl is h
    timed_at (answer.Taken count) is h = none_at (answer.Taken count) refl is h
    timed_at answer.Again is h = none_at answer.Again refl is h
    timed_at answer.NoRoom is h = none_at answer.NoRoom refl is h
    timed_at answer.Failed is h = none_at answer.Failed refl is h
    timed_at (answer.Happened ready) is h = none_at (answer.Happened ready) refl is h
    timed_at (answer.Signal ends) is h = none_at (answer.Signal ends) refl is h

    -- and at which the file's calls ended
    lost_at : (a : Answer) → time_told a ≡ None → (clock'.last ≡ 0) × (clock'.untold ≡ clock.untold)
        → Holds m opened begun trace Called now waiting clock → Holds m opened begun (record { asked = operation.Now; carried = carried; answer = a; came = came } ∷ trace) Settled now waiting clock'
    lost_at a none is h =
        let told = tells_none a carried came trace none in record {
          deeds = h.deeds;
          done = h.done;
          received = λ place low. (told.apart place).came ∙ h.received place low;
          written = λ place low. (told.apart place).written ∙ h.written place low;
          lives = λ place low. (told.apart place).lives ∙ h.lives place low;
          kept = h.kept;
          timed = timed_none Settled a carried came trace (ticked h.deeds) clock' told
              (timed_lost (counted trace) (ticked h.deeds) (was_for_file trace) (time_of trace) clock clock' is.0 is.1 h.timed);
          in_round = made_in_round _ Called Settled trace h.deeds (λ rounds each. (tt, each)) (λ round before. tt) h.in_round;
        }

    pub skipped_at : (a : Answer) → IsSkipped (time_told a) clock clock' → Holds m opened begun trace Called now waiting clock
        → Holds m opened begun (record { asked = operation.Now; carried = carried; answer = a; came = came } ∷ trace) Settled now waiting clock'
    skipped_at (answer.Time time) is h = record {
      deeds = h.deeds;
      done = h.done;
      received = λ place low. append-nil _ ∙ h.received place low;
      written = λ place low. append-nil _ ∙ h.written place low;
      kept = h.kept;
      lives = h.lives;
      timed = timed_skipped (counted trace) (ticked h.deeds) (was_for_file trace) (time_of trace) time clock clock' is.0 is.1 h.timed;
      in_round = made_in_round _ Called Settled trace h.deeds (λ rounds each. (tt, each)) (λ round before. tt) h.in_round;
    }
    skipped_at answer.Done is h = lost_at answer.Done refl is h
    skipped_at answer.Came is h = lost_at answer.Came refl is h
    skipped_at (answer.Taken count) is h = lost_at (answer.Taken count) refl is h
    skipped_at answer.Again is h = lost_at answer.Again refl is h
    skipped_at answer.NoRoom is h = lost_at answer.NoRoom refl is h
    skipped_at answer.Failed is h = lost_at answer.Failed refl is h
    skipped_at (answer.Happened ready) is h = lost_at (answer.Happened ready) refl is h
    skipped_at (answer.Signal ends) is h = lost_at (answer.Signal ends) refl is h
