-- Steps that are done one after another, as the frames of a stream ask for them.
use Rattle.std.proofs.Common.{◌≡◌, ◌+◌, ℕ, List, Option, [], ◌∷◌, ◌++◌, append_assoc, append-nil, length, length-append, refl, sym, ap, subst, ◌∙◌, inl, inr, arith}
use Rattle.std.proofs.lemmas.List.Concat.{flat_map-append}
use Rattle.image_store.specs.Namespace.{ZonedNamespace}
use Rattle.device_meaning.specs.State.{State}
use Rattle.event_frames.specs.Streams.{behind}
use Rattle.event_frames.specs.declared.request.Request.TheVariants as request
use Rattle.device_serve.specs.FrameStream.{Again, AreCounted, AreDone, Asked, Between, Does, Ending, FailsIn, FrameReader, GoesOn, Idle, IsStep, IsUnread, Leaves, Server, Step, Stops, Within, seen, step_bytes, stream_of}
use Rattle.device_serve.specs.Rounds.{IsCodecs}
use Rattle.device_serve.specs.declared.fault.ServeFault.{ServeFault}
use Rattle.device_serve.specs.declared.fault.ServeFault.TheVariants as fault
use Rattle.device_serve.specs.steps.FrameLaws.{counted_none}

-- ---- places

counted_on : (a b c n m k : ℕ) → AreCounted a n b → AreCounted b m c → k ≡ n + m → AreCounted a k c
counted_on a b c n m k first then total at is = then (at + n) (first at is) ∙ ap (λ (t : ℕ). behind 0 t) (omega (arith, total))

stream_on : (xs ys : List Step) → stream_of (xs ++ ys) ≡ stream_of xs ++ stream_of ys
stream_on xs ys = flat_map-append step_bytes xs ys

-- what was held and bytes asked for steps, and what was held then and more bytes for others
stream_joins : (xs ys : List Step) (held bytes mid more end : List ℕ) → held ++ bytes ≡ stream_of xs ++ mid → mid ++ more ≡ stream_of ys ++ end
    → held ++ (bytes ++ more) ≡ stream_of (xs ++ ys) ++ end
stream_joins xs ys held bytes mid more end first then =
    sym (append_assoc held bytes more) ∙ ap (λ (l : List ℕ). l ++ more) first ∙ append_assoc (stream_of xs) mid more
    ∙ ap (λ (l : List ℕ). stream_of xs ++ l) then ∙ sym (append_assoc (stream_of xs) (stream_of ys) end)
    ∙ ap (λ (l : List ℕ). l ++ end) (sym (stream_on xs ys))

counted_joins : (xs ys : List Step) (a b c : ℕ) → AreCounted a (length (stream_of xs)) b → AreCounted b (length (stream_of ys)) c
    → AreCounted a (length (stream_of (xs ++ ys))) c
counted_joins xs ys a b c first then =
    counted_on a b c (length (stream_of xs)) (length (stream_of ys)) (length (stream_of (xs ++ ys))) first then
    (ap length (stream_on xs ys) ∙ length-append (stream_of xs) (stream_of ys))

-- the bytes of one step
one_step : (step : Step) → stream_of (step ∷ []) ≡ step_bytes step
one_step step = append-nil (step_bytes step)

module _ {K : Type 0} (has_kept : K → K → ZonedNamespace → Type 0) where
  done_on : (turns : ℕ) (xs ys : List Step) (a b c : Server K) → AreDone has_kept turns xs a b → AreDone has_kept turns ys b c
      → AreDone has_kept turns (xs ++ ys) a c
  done_on turns [] ys a b c same done = subst (λ (s : Server K). AreDone has_kept turns ys s c) same done
  done_on turns (x ∷ xs) ys a b c (mid, one, rest) done = (mid, one, done_on turns xs ys mid b c rest done)

module _ {K : Type 0} (has_kept : K → K → ZonedNamespace → Type 0) (becomes : K → K → Type 0) where
  -- ---- why it stops

  of_idle : (why : ServeFault) (held : List ℕ) (place : ℕ) (left : Option (List ℕ)) → IsUnread why held place left → IsCodecs why
  of_idle fault.Read held place left unread = tt
  of_idle (fault.Stream f) held place left unread = tt
  of_idle (fault.Line number f) held place left unread = tt
  of_idle fault.Write held place left unread = unread
  of_idle fault.Save held place left unread = tt
  of_idle fault.Disk held place left unread = unread
  of_idle fault.Memory held place left unread = tt

  starving : (why : ServeFault) → why ≡ fault.Memory → IsCodecs why
  starving why is = subst IsCodecs (sym is) tt

  of_fails : (turns : ℕ) (step : Step) (old new : Server K) (why : ServeFault) → FailsIn has_kept turns step old new why → IsCodecs why
  of_fails turns (Asked (request.Event e)) old new why (fits, fails) = starving why fails.0
  of_fails turns (Asked (request.Drain most)) old new why (fits, fails) = starving why fails.0
  of_fails turns (Asked request.Save) old new why (fits, (same, inl is)) = subst IsCodecs (sym is) tt
  of_fails turns (Asked request.Save) old new why (fits, (same, inr memory)) = starving why memory.0
  of_fails turns Between old new why fails = starving why fails.0

  of_leaves : (why : ServeFault) (codec : FrameReader K) (held : List ℕ) (place : ℕ) (left : Option (List ℕ)) (between new : Server K)
      → Leaves has_kept becomes why codec held place left between new → IsCodecs why
  of_leaves why codec held place left between new (Idle unread same) = of_idle why held place left unread
  of_leaves why codec held place left between new (Again f broken is same) = subst IsCodecs (sym is) tt
  of_leaves why codec held place left between new (Within step more asked fails unanswered) = of_fails codec.turns step between new why fails
  of_leaves why codec held place left between new (Ending asked whole at_end starved some keeper) = starving why starved

  -- a codec of frames stops for what it reads, for a save, or for memory
  pub of_stops : (old : FrameReader K) (s : State) (before bytes : List ℕ) (left : Option (List ℕ)) (new : FrameReader K) (t : State)
      (after : List ℕ) (why : ServeFault) → Stops has_kept becomes old s before bytes left new t after why → IsCodecs why
  of_stops old s before bytes left new t after why stops =
      of_leaves why old stops.held stops.place left stops.between (seen t after new.keeper) stops.leaves

  -- ---- one after another

  module _ (joins : (a b c : K) → becomes a b → becomes b c → becomes a c) (a b : FrameReader K) (s t : State) (w x first : List ℕ)
      (does : Does has_kept becomes a s w first b t x) where
    further : (c : FrameReader K) → GoesOn has_kept becomes b c → GoesOn has_kept becomes a c
    further c then = record {
      turns = then.turns ∙ does.goes_on.turns;
      ends_runs = then.ends_runs ∙ does.goes_on.ends_runs;
      keeper = joins a.keeper b.keeper c.keeper does.goes_on.keeper then.keeper;
    }

    all_done : (ys : List Step) (end : Server K) → AreDone has_kept b.turns ys (seen t x b.keeper) end
        → AreDone has_kept a.turns (does.steps ++ ys) (seen s w a.keeper) end
    all_done ys end done =
        done_on has_kept a.turns does.steps ys (seen s w a.keeper) (seen t x b.keeper) end does.done
        (subst (λ (n : ℕ). AreDone has_kept n ys (seen t x b.keeper) end) does.goes_on.turns done)

    pub does_on : (c : FrameReader K) (u : State) (y later : List ℕ) → Does has_kept becomes b t x later c u y
        → Does has_kept becomes a s w (first ++ later) c u y
    does_on c u y later then = record {
      goes_on = further c then.goes_on;
      healthy = then.healthy ∙ does.healthy;
      steps = does.steps ++ then.steps;
      stream_is = stream_joins does.steps then.steps a.session.pending first b.session.pending later c.session.pending does.stream_is then.stream_is;
      counted = counted_joins does.steps then.steps a.session.place b.session.place c.session.place does.counted then.counted;
      done = all_done then.steps (seen u y c.keeper) then.done;
    }

    leaves_further : (why : ServeFault) (held : List ℕ) (place : ℕ) (left : Option (List ℕ)) (between new : Server K)
        → Leaves has_kept becomes why b held place left between new → Leaves has_kept becomes why a held place left between new
    leaves_further why held place left between new (Idle unread same) = Idle unread same
    leaves_further why held place left between new (Again f broken is same) = Again f (sym does.healthy ∙ broken) is same
    leaves_further why held place left between new (Within step more asked fails unanswered) =
        Within step more asked (subst (λ (n : ℕ). FailsIn has_kept n step between new why) does.goes_on.turns fails) unanswered
    leaves_further why held place left between new (Ending asked whole at_end starved some keeper) =
        Ending (sym does.goes_on.ends_runs ∙ asked) whole at_end starved some keeper

    pub stops_on : (c : FrameReader K) (u : State) (y later : List ℕ) (left : Option (List ℕ)) (why : ServeFault)
        → Stops has_kept becomes b t x later left c u y why → Stops has_kept becomes a s w (first ++ later) left c u y why
    stops_on c u y later left why then = record {
      goes_on = further c then.goes_on;
      steps = does.steps ++ then.steps;
      held = then.held;
      place = then.place;
      between = then.between;
      stream_is = stream_joins does.steps then.steps a.session.pending first b.session.pending later then.held does.stream_is then.stream_is;
      counted = counted_joins does.steps then.steps a.session.place b.session.place then.place does.counted then.counted;
      done = all_done then.steps then.between then.done;
      leaves = leaves_further why then.held then.place left then.between (seen u y c.keeper) then.leaves;
    }

  -- ---- one step

  pub does_step : (old new : FrameReader K) (s t : State) (before bytes after : List ℕ) (step : Step) → GoesOn has_kept becomes old new
      → new.session.fault ≡ old.session.fault → old.session.pending ++ bytes ≡ step_bytes step ++ new.session.pending
      → AreCounted old.session.place (length (step_bytes step)) new.session.place
      → IsStep has_kept old.turns step (seen s before old.keeper) (seen t after new.keeper) → Does has_kept becomes old s before bytes new t after
  does_step old new s t before bytes after step goes_on healthy asked counted is = record {
    goes_on = goes_on;
    healthy = healthy;
    steps = step ∷ [];
    stream_is = asked ∙ ap (λ (l : List ℕ). l ++ new.session.pending) (sym (one_step step));
    counted = subst (λ (l : List ℕ). AreCounted old.session.place (length l) new.session.place) (sym (one_step step)) counted;
    done = (seen t after new.keeper, is, refl);
  }

  -- nothing more is done
  pub stops_there : (old new : FrameReader K) (s t : State) (before bytes after : List ℕ) (left : Option (List ℕ)) (why : ServeFault)
      → GoesOn has_kept becomes old new
      → Leaves has_kept becomes why old (old.session.pending ++ bytes) old.session.place left (seen s before old.keeper) (seen t after new.keeper)
      → Stops has_kept becomes old s before bytes left new t after why
  stops_there old new s t before bytes after left why goes_on leaves = record {
    goes_on = goes_on;
    steps = [];
    held = old.session.pending ++ bytes;
    place = old.session.place;
    between = seen s before old.keeper;
    stream_is = refl;
    counted = counted_none old.session.place;
    done = refl;
    leaves = leaves;
  }
