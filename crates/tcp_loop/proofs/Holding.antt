-- What deeds keep of what holds of a loop; and from what holds follows the law.
use Rattle.std.proofs.Common.{◌≡◌, ◌≢◌, ◌<◌, ◌+◌, ◌*◌, ◌⊎◌, inl, inr, ⊎_elim, ℕ, Bool, true, false, if◌then◌else◌, List, [], ◌∷◌, ◌++◌, length, drop, refl, sym, ap, subst, ◌∙◌, append_assoc, arith}
use Rattle.std.specs.Prelude.{◌==◌, All, slice_index_or, slice_set}
use Rattle.std.proofs.lemmas.Bool.Decides.{eqb_tells}
use Rattle.std.proofs.lemmas.List.{append-nil, get_or-set_same}
use Rattle.stored_file.specs.Calls as calls
use Rattle.tcp_loop.specs.Trace.{Trace}
use Rattle.tcp_loop.specs.Sockets.{came_on, life_on}
use Rattle.tcp_loop.specs.Disk.{calls_of, new_file}
use Rattle.tcp_loop.specs.Deeds.{Closed, Deed, Meaning, Received, Resumed, Served, Ticked, Turned, life_of, received_on}
use Rattle.tcp_loop.specs.Keeping.{Covers, KeptState}
use Rattle.tcp_loop.specs.Kept.{Attending, Begun, Phase, Resting, Settled}
use Rattle.tcp_loop.specs.Clock.{time_of}
use Rattle.tcp_loop.specs.Times.{counted, ticked, was_for_file}
use Rattle.tcp_loop.specs.declared.clock.Clock.{Clock}
use Rattle.tcp_loop.specs.Attended.{IsAttendedTo, deeds_in}
use Rattle.tcp_loop.specs.Law.{IsExplained}
use Rattle.tcp_loop.specs.Holding.{Attends, Holds, Keeps, Makes, Takes}
use Rattle.tcp_loop.specs.declared.operation.Answer.{Answer}
use Rattle.tcp_loop.specs.declared.operation.Operation.TheVariants as operation
use Rattle.tcp_loop.proofs.Keeping.{kept_leaves, rests_more, settled_rests}
use Rattle.tcp_loop.proofs.Knowing.{knows_same}
use Rattle.tcp_loop.proofs.Attending.{made_in_round, one_more}
use Rattle.tcp_loop.proofs.Phasing.{attends_less}
use Rattle.tcp_loop.proofs.Timing.{few_all, timed_attending, timed_ticked}
use Rattle.tcp_loop.proofs.Lists.{at_places, handed_on, set_as_is}

-- a place below the next is this one, or below it
here_or_below : (number place : ℕ) → place < number + 1 → (place ≡ number) ⊎ (place < number)
here_or_below number place below = ⊎_elim
    (λ (is : (place == number ≡ true) × (place ≡ number)). inl is.1)
    (λ (other : (place == number ≡ false) × (place ≢ number)). inr (omega (arith, below, other.1))) (eqb_tells place number)

module _ {State : Type 0} (m : Meaning State) where
  -- ---- deeds that neither receive nor send

  pub served : (number : ℕ) (s s' : KeptState State) (waiting : List (List ℕ)) (clock : Clock) → m.does (Served number) s.state s'.state → s'.file ≡ s.file
      → Keeps m Resting s waiting clock Resting s' waiting clock
  served number s s' waiting clock did same = λ opened begun trace h. record {
    deeds = Served number ∷ h.deeds;
    done = record { between = s.state; first = h.done; last = did };
    received = h.received;
    written = h.written;
    kept = rests_more m (Served number) (calls_of opened trace) s.file s'.file h.deeds begun s.state s'.state h.done did refl same h.kept;
    lives = h.lives;
    timed = h.timed;
    in_round = one_more Resting Resting (Served number) trace h.deeds (λ round before all reached. tt) h.in_round;
  }

  pub turned : (s s' : KeptState State) (waiting : List (List ℕ)) (clock : Clock) → m.does Turned s.state s'.state → s'.file ≡ s.file
      → Keeps m Resting s waiting clock (Attending 0) s' waiting clock
  turned s s' waiting clock did same = λ opened begun trace h. record {
    deeds = Turned ∷ h.deeds;
    done = record { between = s.state; first = h.done; last = did };
    received = h.received;
    written = h.written;
    kept = rests_more m Turned (calls_of opened trace) s.file s'.file h.deeds begun s.state s'.state h.done did refl same h.kept;
    lives = h.lives;
    timed = timed_attending (counted trace) (ticked h.deeds) (was_for_file trace) (time_of trace) clock 0 h.timed;
    in_round = one_more Resting (Attending 0) Turned trace h.deeds
        (λ round before all reached. (refl, λ place low. absurd (omega (arith, low)))) h.in_round;
  }

  pub resumed : (run : ℕ) (s s' : KeptState State) (waiting : List (List ℕ)) (clock : Clock) → m.does (Resumed run) s.state s'.state → s'.file ≡ s.file
      → Keeps m Resting s waiting clock Resting s' waiting clock
  resumed run s s' waiting clock did same = λ opened begun trace h. record {
    deeds = Resumed run ∷ h.deeds;
    done = record { between = s.state; first = h.done; last = did };
    received = h.received;
    written = h.written;
    kept = rests_more m (Resumed run) (calls_of opened trace) s.file s'.file h.deeds begun s.state s'.state h.done did refl same h.kept;
    lives = h.lives;
    timed = h.timed;
    in_round = one_more Resting Resting (Resumed run) trace h.deeds (λ round before all reached. tt) h.in_round;
  }

  -- a connection is closed
  pub closes : (number : ℕ) (s s' : KeptState State) (waiting : List (List ℕ)) (clock : Clock) (carried came : List ℕ) (a : Answer)
      → m.does (Closed number) s.state s'.state → s'.file ≡ s.file
      → Makes m (record { asked = operation.Close number; carried = carried; answer = a; came = came }) Resting s waiting clock Resting s' waiting clock
  closes number s s' waiting clock carried came a did same = λ opened begun trace h. record {
    deeds = Closed number ∷ h.deeds;
    done = record { between = s.state; first = h.done; last = did };
    received = λ p low. append-nil _ ∙ h.received p low;
    written = λ p low. append-nil _ ∙ h.written p low;
    lives = λ p low. at_places number p (λ b. (if b then false ∷ life_on p trace else life_on p trace)
        ≡ (if b then false ∷ life_of p h.deeds else life_of p h.deeds)) (λ here. ap (λ (l : List Bool). false ∷ l) (h.lives p low)) (λ there. h.lives p low);
    kept = rests_more m (Closed number) (calls_of opened trace) s.file s'.file h.deeds begun s.state s'.state h.done did refl same h.kept;
    timed = h.timed;
    in_round = one_more Resting Resting (Closed number) _ h.deeds (λ round before all reached. tt)
        (made_in_round _ Resting Resting trace h.deeds (λ rounds each. (tt, each)) (λ round before. tt) h.in_round);
  }

  -- the state is the same
  pub same : (phase : Phase) (s s' : KeptState State) (waiting : List (List ℕ)) (clock : Clock) → s' ≡ s
      → Keeps m phase s waiting clock phase s' waiting clock
  same phase s s' waiting clock is = λ opened begun trace h. subst (λ (x : KeptState State). Holds m opened begun trace phase x waiting clock) (sym is) h

  -- one after another
  pub chain : (p q r : Phase) (a b c : KeptState State) (x y z : List (List ℕ)) (clock : Clock) → Keeps m p a x clock q b y clock
      → Keeps m q b y clock r c z clock → Keeps m p a x clock r c z clock
  chain p q r a b c x y z clock first second = λ opened begun trace h. second opened begun trace (first opened begun trace h)

  -- a second is told, and the target counts it
  pub ticks : (milliseconds : ℕ) (s s' : KeptState State) (waiting : List (List ℕ)) (clock clock' : Clock)
      → m.does (Ticked milliseconds) s.state s'.state → s'.file ≡ s.file → clock'.last ≡ clock.last
      → clock.untold ≡ milliseconds * 1000 + clock'.untold → (clock.untold < 2000000 → clock'.untold < 1000000)
      → Keeps m Settled s waiting clock Resting s' waiting clock'
  ticks milliseconds s s' waiting clock clock' did is last is_told few = λ opened begun trace h. record {
    deeds = Ticked milliseconds ∷ h.deeds;
    done = record { between = s.state; first = h.done; last = did };
    received = h.received;
    written = h.written;
    kept = rests_more m (Ticked milliseconds) (calls_of opened trace) s.file s'.file h.deeds begun s.state s'.state h.done did refl is
        (settled_rests m (calls_of opened trace) (new_file trace) s.file h.deeds begun s.state h.done h.kept);
    lives = h.lives;
    timed = timed_ticked (counted trace) (ticked h.deeds) milliseconds (was_for_file trace) (time_of trace) clock clock' last is_told few h.timed;
    in_round = one_more Settled Resting (Ticked milliseconds) trace h.deeds (λ round before all reached. tt) h.in_round;
  }

  -- ---- bytes that are received

  -- those that are taken wait no more
  received : (number first count : ℕ) (piece : List ℕ) (s s' : KeptState State) (waiting : List (List ℕ)) (clock : Clock) → number < length waiting
      → m.does (Received number (drop first piece) count) s.state s'.state → s'.file ≡ s.file
      → Keeps m Resting s (slice_set waiting number (drop first piece)) clock Resting s' (slice_set waiting number (drop (first + count) piece)) clock
  received number first count piece s s' waiting clock within did is = λ opened begun trace h. record {
    deeds = Received number (drop first piece) count ∷ h.deeds;
    done = record { between = s.state; first = h.done; last = did };
    received = λ place low. h.received place low ∙ ap (λ (l : List ℕ). received_on place h.deeds ++ l) (sym (handed_on waiting number place first count piece within))
        ∙ sym (append_assoc (received_on place h.deeds) _ _);
    written = h.written;
    kept = rests_more m (Received number (drop first piece) count) (calls_of opened trace) s.file s'.file h.deeds begun s.state s'.state h.done did refl is h.kept;
    lives = h.lives;
    timed = h.timed;
    in_round = one_more Resting Resting (Received number (drop first piece) count) trace h.deeds (λ round before all reached. tt) h.in_round;
  }

  pub takes_none : (number : ℕ) (piece : List ℕ) (s : KeptState State) → Takes m number piece 0 s s
  takes_none number piece s = λ waiting clock within opened begun trace h. h

  pub received_and_served : (number first count : ℕ) (piece : List ℕ) (begun s s' s'' : KeptState State) → Takes m number piece first begun s
      → m.does (Received number (drop first piece) count) s.state s'.state → s'.file ≡ s.file
      → m.does (Served number) s'.state s''.state → s''.file ≡ s'.file → Takes m number piece (first + count) begun s''
  received_and_served number first count piece begun s s' s'' so did is then_did then_is = λ waiting clock within.
      chain Resting Resting Resting begun s s'' _ _ _ clock (so waiting clock within)
      (chain Resting Resting Resting s s' s'' _ _ _ clock (received number first count piece s s' waiting clock within did is)
      (served number s' s'' _ clock then_did then_is))

  pub received_and_same : (number first count : ℕ) (piece : List ℕ) (begun s s' s'' : KeptState State) → Takes m number piece first begun s
      → m.does (Received number (drop first piece) count) s.state s'.state → s'.file ≡ s.file → s'' ≡ s'
      → Takes m number piece (first + count) begun s''
  received_and_same number first count piece begun s s' s'' so did is then_same = λ waiting clock within.
      chain Resting Resting Resting begun s s'' _ _ _ clock (so waiting clock within)
      (chain Resting Resting Resting s s' s'' _ _ _ clock (received number first count piece s s' waiting clock within did is)
      (same Resting s' s'' _ clock then_same))

  -- ---- connections that are attended to

  -- all that came on a connection and isn't received waits
  handed_all : (number first : ℕ) (piece : List ℕ) (phase : Phase) (opened : List calls.Call) (begun : State) (s : KeptState State) (trace : Trace)
      (waiting : List (List ℕ)) (clock : Clock) (round before : List Deed) → number < length waiting → number < 40
      → (h : Holds m opened begun trace phase s (slice_set waiting number (drop first piece)) clock) → h.deeds ≡ round ++ before
      → came_on number trace ≡ received_on number (round ++ before) ++ drop first piece
  handed_all number first piece phase opened begun s trace waiting clock round before within low h all =
      h.received number low
      ∙ ap (λ (l : List ℕ). received_on number h.deeds ++ l) (get_or-set_same waiting number (drop first piece) [] within)
      ∙ ap (λ (l : List Deed). received_on number l ++ drop first piece) all

  -- it is handed on, and the command is done that is ready
  pub attended : (number first count : ℕ) (piece : List ℕ) (s s' s'' : KeptState State) → number < 40
      → m.does (Received number (drop first piece) count) s.state s'.state → s'.file ≡ s.file
      → m.does (Served number) s'.state s''.state → s''.file ≡ s'.file → Attends m number piece first (first + count) s s''
  attended number first count piece s s' s'' low did is then_did then_is = λ waiting clock within opened begun trace h. record {
    deeds = Served number ∷ Received number (drop first piece) count ∷ h.deeds;
    done = record { between = s'.state; first = record { between = s.state; first = h.done; last = did }; last = then_did };
    received = λ place low. h.received place low ∙ ap (λ (l : List ℕ). received_on place h.deeds ++ l) (sym (handed_on waiting number place first count piece within))
        ∙ sym (append_assoc (received_on place h.deeds) _ _);
    written = h.written;
    kept = rests_more m (Served number) (calls_of opened trace) s'.file s''.file (Received number (drop first piece) count ∷ h.deeds) begun s'.state s''.state _ then_did refl then_is
        (rests_more m (Received number (drop first piece) count) (calls_of opened trace) s.file s'.file h.deeds begun s.state s'.state h.done did refl is h.kept);
    lives = h.lives;
    timed = record { counts = h.timed.counts; few = h.timed.few; last_is = h.timed.last_is };
    in_round = record {
      attended = record {
        since = Served number ∷ Received number (drop first piece) count ∷ h.in_round.attended.since;
        rounds = h.in_round.attended.rounds;
        all = ap (λ (l : List Deed). Served number ∷ Received number (drop first piece) count ∷ l) h.in_round.attended.all;
        each = h.in_round.attended.each;
      };
      reached = (
        h.in_round.reached.0,
        λ place below. ⊎_elim
            (λ (here : place ≡ number). subst (λ (p : ℕ). IsAttendedTo p (came_on p trace)
            (Served number ∷ Received number (drop first piece) count ∷ h.in_round.attended.since) (deeds_in h.in_round.attended.rounds)) (sym here)
            (inl (
              refl,
              inl (
                refl,
                handed_all number first piece (Attending number) opened begun s trace waiting clock
                    h.in_round.attended.since (deeds_in h.in_round.attended.rounds) within low h h.in_round.attended.all,
              ),
            )))
            (λ (other : place < number). inr (inr (h.in_round.reached.1 place other))) (here_or_below number place below),
      );
    };
  }

  -- again, after it was
  pub attended_again : (number before between count : ℕ) (piece : List ℕ) (s s' s'' : KeptState State)
      → Attends m number piece before between s s' → Attends m number piece between count s' s'' → Attends m number piece before count s s''
  attended_again number before between count piece s s' s'' first second = λ waiting clock within opened begun trace h.
      second waiting clock within opened begun trace (attends_less m number s' (slice_set waiting number (drop between piece)) clock opened begun trace
      (first waiting clock within opened begun trace h))

  -- what waits on a connection is handed on
  pub advanced : (number count : ℕ) (piece : List ℕ) (s s' : KeptState State) (waiting : List (List ℕ)) (clock : Clock) → number < length waiting
      → slice_index_or waiting number [] ≡ piece → Takes m number piece count s s'
      → Keeps m Resting s waiting clock Resting s' (slice_set waiting number (drop count piece)) clock
  advanced number count piece s s' waiting clock within is takes =
      subst (λ (w : List (List ℕ)). Keeps m Resting s w clock Resting s' (slice_set waiting number (drop count piece)) clock) (set_as_is waiting number piece is)
      (takes waiting clock within)

  pub attends_at : (number count : ℕ) (piece : List ℕ) (s s' : KeptState State) (waiting : List (List ℕ)) (clock : Clock) → number < length waiting
      → slice_index_or waiting number [] ≡ piece → Attends m number piece 0 count s s'
      → Keeps m (Attending number) s waiting clock (Attending (number + 1)) s' (slice_set waiting number (drop count piece)) clock
  attends_at number count piece s s' waiting clock within is attends =
      subst (λ (w : List (List ℕ)). Keeps m (Attending number) s w clock (Attending (number + 1)) s' (slice_set waiting number (drop count piece)) clock)
      (set_as_is waiting number piece is) (attends waiting clock within)

  -- ---- the beginning, and the law

  pub begins_with : (s : KeptState State) (waiting : List (List ℕ)) (clock : Clock) → All (λ bytes. bytes ≡ []) waiting → length waiting ≡ 40
      → clock.last ≡ 0 → clock.untold ≡ 0 → Covers m s.file.waits s.file.made s.state s.state
      → Holds m s.file.made s.state [] Begun s waiting clock
  begins_with s waiting clock empty places last untold covers = record {
    deeds = [];
    done = refl;
    received = λ place low. sym (empty place [] (omega (arith, low, places)));
    written = λ place low. refl;
    kept = (knows_same m.may_be_left s.file.made, record { missing = 0; unanswered = tt; covers = covers });
    lives = λ place low. refl;
    timed = record { counts = omega (arith, untold); few = omega (arith, untold); last_is = last };
    in_round = record { attended = record { since = []; rounds = []; all = refl; each = refl }; reached = tt };
  }

  pub explained : (opened : List calls.Call) (begun : State) (trace : Trace) (phase : Phase) (now : KeptState State) (waiting : List (List ℕ))
      (clock : Clock) → Holds m opened begun trace phase now waiting clock → IsExplained m opened begun trace
  explained opened begun trace phase now waiting clock h =
      let counts : counted trace ≡ ticked h.deeds * 1000 + clock.untold = h.timed.counts in
      let few : clock.untold < 2000000 = few_all phase clock.untold h.timed.few in
      record {
        deeds = h.deeds;
        new = now.state;
        done = h.done;
        received = λ place low. (slice_index_or waiting place [], h.received place low);
        written = h.written;
        lives = h.lives;
        left = kept_leaves m phase (calls_of opened trace) (new_file trace) now.file h.deeds begun now.state h.done h.kept;
        attended = h.in_round.attended;
        timed = record { no_more = omega (arith, counts); no_less = omega (arith, counts, few) };
      }
