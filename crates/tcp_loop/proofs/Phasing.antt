-- What holds of a loop goes from phase to phase.
use Rattle.std.proofs.Common.{◌≡◌, ◌<◌, ◌+◌, arith, ℕ, Bool, true, false, List, [], refl, sym, subst}
use Rattle.std.specs.Prelude.{Some}
use Rattle.stored_file.specs.Calls as calls
use Rattle.tcp_loop.specs.Trace.{Trace}
use Rattle.tcp_loop.specs.Disk.{calls_of, new_file}
use Rattle.tcp_loop.specs.Deeds.{AreDone, Deed, Meaning}
use Rattle.tcp_loop.specs.Keeping.{IsCommitted, IsFolded, IsNext, IsToldDone, KeptState, wanted_by}
use Rattle.tcp_loop.specs.Kept.{Answered, Attending, Begun, Called, Committing, Due, Folding, IsKept, Pending, Phase, Placing, Resting, Settled, Stopped, Told}
use Rattle.tcp_loop.specs.Clock.{time_of}
use Rattle.tcp_loop.specs.Times.{counted, ticked, was_for_file}
use Rattle.tcp_loop.specs.Timed.{IsTimed}
use Rattle.tcp_loop.specs.declared.clock.Clock.{Clock}
use Rattle.tcp_loop.specs.Attended.{deeds_in}
use Rattle.tcp_loop.specs.Holding.{HasReached, Holds, Keeps}
use Rattle.tcp_loop.specs.declared.stage.Part.TheVariants as part
use Rattle.tcp_loop.specs.declared.target.Call.{Call}
use Rattle.tcp_loop.proofs.Keeping.{committed, folded, kept_leaves, next_known, none_settled, not_folded, settled_rests, to_make, told}
use Rattle.tcp_loop.proofs.Timing.{timed_attended, timed_begun, timed_called, timed_committing, timed_due, timed_pending, timed_placing, timed_resting, timed_settled, timed_stopped, timed_told}

module _ {State : Type 0} (m : Meaning State) where
  -- what is known of the file changes, and nothing else does
  module _ (phase phase' : Phase) (s s' : KeptState State) (waiting : List (List ℕ)) (clock : Clock)
      (times : (c t : ℕ) (f : Bool) (l : ℕ) → IsTimed phase c t f l clock → IsTimed phase' c t f l clock)
      (reaches : (trace : Trace) (round before : List Deed) → HasReached phase trace round before → HasReached phase' trace round before)
      (same_state : s'.state ≡ s.state)
      (changes : (opened : List calls.Call) (trace : Trace) (deeds : List Deed) (begun : State) (done : AreDone m deeds begun s.state)
      → IsKept m phase (calls_of opened trace) (new_file trace) s.file deeds begun s.state done
      → IsKept m phase' (calls_of opened trace) (new_file trace) s'.file deeds begun s.state done) where
    by_file : Keeps m phase s waiting clock phase' s' waiting clock
    by_file = λ opened begun trace h.
        subst (λ (x : State). Holds m opened begun trace phase' (record { state = x; file = s'.file }) waiting clock) (sym same_state)
        (record {
          deeds = h.deeds;
          done = h.done;
          received = h.received;
          written = h.written;
          kept = changes opened trace h.deeds begun h.done h.kept;
          lives = h.lives;
          timed = times (counted trace) (ticked h.deeds) (was_for_file trace) (time_of trace) h.timed;
          in_round = record {
            attended = h.in_round.attended;
            reached = reaches trace h.in_round.attended.since (deeds_in h.in_round.attended.rounds) h.in_round.reached;
          };
        })

  -- it stops, whatever became of its file
  pub stops_at : (phase : Phase) (s s' : KeptState State) (waiting : List (List ℕ)) (clock : Clock) → s'.state ≡ s.state
      → Keeps m phase s waiting clock Stopped s' waiting clock
  stops_at phase s s' waiting clock is = by_file phase Stopped s s' waiting clock (λ c t f l h. timed_stopped c t f l clock phase h) (λ trace round before reached. tt) is
      (λ opened trace deeds begun done kept. kept_leaves m phase (calls_of opened trace) (new_file trace) s.file deeds begun s.state done kept)

  pub stops : (phase : Phase) (s : KeptState State) (waiting : List (List ℕ)) (clock : Clock) → Keeps m phase s waiting clock Stopped s waiting clock
  stops phase s waiting clock = stops_at phase s s waiting clock refl

  pub rests : (s : KeptState State) (waiting : List (List ℕ)) (clock : Clock) → clock.untold < 1000000
      → Keeps m Settled s waiting clock Resting s waiting clock
  rests s waiting clock few = by_file Settled Resting s s waiting clock (λ c t f l h. timed_resting c t f l clock few h) (λ trace round before reached. tt) refl
      (λ opened trace deeds begun done kept. settled_rests m (calls_of opened trace) (new_file trace) s.file deeds begun s.state done kept)

  pub is_due : (s : KeptState State) (waiting : List (List ℕ)) (clock : Clock) → Keeps m Resting s waiting clock Due s waiting clock
  is_due s waiting clock = by_file Resting Due s s waiting clock (λ c t f l h. timed_due c t f l clock h) (λ trace round before reached. tt) refl (λ opened trace deeds begun done kept. kept)

  pub attended_rests : (from : ℕ) (s : KeptState State) (waiting : List (List ℕ)) (clock : Clock)
      → Keeps m (Attending from) s waiting clock Resting s waiting clock
  attended_rests from s waiting clock = by_file (Attending from) Resting s s waiting clock (λ c t f l h. timed_attended c t f l clock from h)
      (λ trace round before reached. tt) refl (λ opened trace deeds begun done kept. kept)

  -- of a connection less
  pub attends_less : (n : ℕ) (s : KeptState State) (waiting : List (List ℕ)) (clock : Clock)
      → Keeps m (Attending (n + 1)) s waiting clock (Attending n) s waiting clock
  attends_less n s waiting clock = by_file (Attending (n + 1)) (Attending n) s s waiting clock
      (λ c t f l h. record { counts = h.counts; few = h.few; last_is = h.last_is })
      (λ trace round before reached. (reached.0, λ place low. reached.1 place (omega (arith, low)))) refl (λ opened trace deeds begun done kept. kept)

  pub commits : (s s' : KeptState State) (waiting : List (List ℕ)) (clock : Clock) → s'.state ≡ s.state → IsCommitted m s s'
      → Keeps m Due s waiting clock Pending s' waiting clock
  commits s s' waiting clock is does_commit = by_file Due Pending s s' waiting clock (λ c t f l h. timed_pending c t f l clock h) (λ trace round before reached. tt) is
      (λ opened trace deeds begun done kept. committed m (calls_of opened trace) (new_file trace) s s' deeds begun done does_commit kept)

  pub goes_on_with : (next : Call) (s : KeptState State) (waiting : List (List ℕ)) (clock : Clock) → IsNext m next s.file
      → Keeps m Pending s waiting clock (Committing next) s waiting clock
  goes_on_with next s waiting clock is_next = by_file Pending (Committing next) s s waiting clock (λ c t f l h. timed_committing c t f l clock Pending next h) (λ trace round before reached. tt) refl
      (λ opened trace deeds begun done kept. next_known m next (calls_of opened trace) (new_file trace) s.file deeds begun s.state done is_next kept)

  pub begins_by : (next : Call) (s : KeptState State) (waiting : List (List ℕ)) (clock : Clock) → IsNext m next s.file
      → Keeps m Begun s waiting clock (Committing next) s waiting clock
  begins_by next s waiting clock is_next = by_file Begun (Committing next) s s waiting clock (λ c t f l h. timed_committing c t f l clock Begun next h) (λ trace round before reached. tt) refl
      (λ opened trace deeds begun done kept. next_known m next (calls_of opened trace) (new_file trace) s.file deeds begun s.state done is_next kept)

  pub tells_next : (next : Call) (s : KeptState State) (waiting : List (List ℕ)) (clock : Clock) → IsNext m next s.file
      → Keeps m Told s waiting clock (Committing next) s waiting clock
  tells_next next s waiting clock is_next = by_file Told (Committing next) s s waiting clock (λ c t f l h. timed_committing c t f l clock Told next h) (λ trace round before reached. tt) refl
      (λ opened trace deeds begun done kept. next_known m next (calls_of opened trace) (new_file trace) s.file deeds begun s.state done is_next kept)

  pub settles : (s : KeptState State) (waiting : List (List ℕ)) (clock : Clock) → s.file.waits ≡ []
      → Keeps m Pending s waiting clock Settled s waiting clock
  settles s waiting clock none = by_file Pending Settled s s waiting clock (λ c t f l h. timed_settled c t f l clock h) (λ trace round before reached. tt) refl
      (λ opened trace deeds begun done kept. none_settled m (calls_of opened trace) (new_file trace) s.file deeds begun s.state done none kept)

  pub tells_last : (s : KeptState State) (waiting : List (List ℕ)) (clock : Clock) → s.file.waits ≡ []
      → Keeps m Told s waiting clock Called s waiting clock
  tells_last s waiting clock none = by_file Told Called s s waiting clock (λ c t f l h. timed_called c t f l clock h) (λ trace round before reached. tt) refl
      (λ opened trace deeds begun done kept. none_settled m (calls_of opened trace) (new_file trace) s.file deeds begun s.state done none kept)

  pub begins_at_rest : (s : KeptState State) (waiting : List (List ℕ)) (clock : Clock) → s.file.waits ≡ []
      → Keeps m Begun s waiting clock Resting s waiting clock
  begins_at_rest s waiting clock none = by_file Begun Resting s s waiting clock (λ c t f l h. timed_begun c t f l clock h) (λ trace round before reached. tt) refl
      (λ opened trace deeds begun done kept. settled_rests m (calls_of opened trace) (new_file trace) s.file deeds begun s.state done
      (none_settled m (calls_of opened trace) (new_file trace) s.file deeds begun s.state done none kept))

  pub tells : (s s' : KeptState State) (waiting : List (List ℕ)) (clock : Clock) → s'.state ≡ s.state → IsToldDone m s.file s'.file
      → Keeps m Answered s waiting clock Told s' waiting clock
  tells s s' waiting clock is is_told = by_file Answered Told s s' waiting clock (λ c t f l h. timed_told c t f l clock h) (λ trace round before reached. tt) is
      (λ opened trace deeds begun done kept. told m (calls_of opened trace) (new_file trace) s.file s'.file deeds begun s.state done is_told kept)

  pub folds : (put : Bool) (s t s' : KeptState State) (waiting : List (List ℕ)) (clock : Clock) → put ≡ true → s'.state ≡ s.state
      → IsFolded m put s t → IsToldDone m t.file s'.file → Keeps m Folding s waiting clock (Placing part.Named) s' waiting clock
  folds put s t s' waiting clock so is does_fold is_told =
      by_file Folding (Placing part.Named) s s' waiting clock (λ c n f l h. timed_placing c n f l clock Folding part.Named h) (λ trace round before reached. tt) is
      (λ opened trace deeds begun done kept. folded m (calls_of opened trace) (new_file trace) s t s'.file put deeds begun done so does_fold is_told kept)

  pub folds_not : (put : Bool) (s s' : KeptState State) (waiting : List (List ℕ)) (clock : Clock) → put ≡ false → s'.state ≡ s.state
      → IsFolded m put s s' → Keeps m Folding s waiting clock (Placing part.Discarded) s' waiting clock
  folds_not put s s' waiting clock so is does_fold =
      by_file Folding (Placing part.Discarded) s s' waiting clock (λ c t f l h. timed_placing c t f l clock Folding part.Discarded h) (λ trace round before reached. tt) is
      (λ opened trace deeds begun done kept. not_folded m (calls_of opened trace) (new_file trace) s s' put deeds begun done so does_fold kept)

  pub makes_new : (next : Call) (wants : Bool) (s : KeptState State) (waiting : List (List ℕ)) (clock : Clock) → wanted_by next ≡ Some wants
      → Keeps m (Committing next) s waiting clock (Placing (part.Made wants)) s waiting clock
  makes_new next wants s waiting clock is =
      by_file (Committing next) (Placing (part.Made wants)) s s waiting clock (λ c t f l h. timed_placing c t f l clock (Committing next) (part.Made wants) h) (λ trace round before reached. tt) refl
      (λ opened trace deeds begun done kept. to_make m next wants (calls_of opened trace) (new_file trace) s.file deeds begun s.state done is kept)
