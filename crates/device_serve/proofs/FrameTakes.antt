-- Requests that a session takes of a stream.
use Rattle.std.proofs.Common.{◌≡◌, ◌<◌, ℕ, Bool, true, false, List, Option, Some, None, ◌+◌, [], ◌++◌, append_assoc, append-nil, drop, length, take, refl, sym, ap, subst, ◌∙◌, arith}
use Rattle.std.specs.Io.KnownBytes.{IsAtEnd}
use Rattle.std.proofs.lemmas.List.{take-append-drop, take_all, take_at}
use Rattle.image_store.specs.Namespace.{ZonedNamespace}
use Rattle.device_meaning.specs.State.{State}
use Rattle.event_frames.specs.Frames.{reply_frame, request_frame}
use Rattle.event_frames.specs.Requests.{Fits, told_of}
use Rattle.event_frames.specs.Streams.{Breaks, IsFault, IsPartial, SessionState, Takes, TakesAll, TakesOne, behind}
use Rattle.event_frames.specs.declared.fault.StreamFault.{StreamFault}
use Rattle.event_frames.specs.declared.fault.StreamFault.TheVariants as stream
use Rattle.event_frames.specs.declared.request.Request.{Request}
use Rattle.device_serve.specs.EndingRuns.{EndsRuns, EndsSome}
use Rattle.device_serve.specs.FrameStream.{Again, Asked, Between, Does, Ending, EndsAsAsked, Fails, GivesTurns, GoesOn, Idle, IsDone, IsStreamFault, Stops, WentRound, Within, reader, seen}
use Rattle.device_serve.specs.declared.fault.ServeFault.{ServeFault}
use Rattle.device_serve.specs.declared.fault.ServeFault.TheVariants as fault
use Rattle.device_serve.specs.steps.FrameLaws.{counted_none}
use Rattle.device_serve.specs.steps.FrameParts.{HasGrown}
use Rattle.device_serve.proofs.FrameSteps.{does_step, stops_there}

-- some of a piece is taken
pub some_taken : (old new : SessionState) (rest : List ℕ) (count : ℕ) (request : Option Request) → Takes old new rest count request → 0 < length rest → 0 < count
some_taken old new rest count None t some = omega (arith, t.all, some)
some_taken old new rest count (Some r) t some = t.some

pub it_fits : (old new : SessionState) (rest : List ℕ) (count : ℕ) (request : Option Request) (r : Request) → request ≡ Some r
    → Takes old new rest count request → Fits (told_of r)
it_fits old new rest count request r some takes =
    let t : TakesOne old new rest count (told_of r) = subst (Takes old new rest count) some takes in t.fits

-- what was added to an answer is dropped
pub cut_back : (n : ℕ) (before grown after : List ℕ) → HasGrown before grown → after ≡ take n grown → n ≡ length before → after ≡ before
cut_back n before grown after (bytes, is) cut whole =
    cut ∙ ap (λ (l : List ℕ). take n l) is ∙ ap (λ (m : ℕ). take m (before ++ bytes)) whole ∙ take_at before bytes (length before) refl

-- the end of a stream ends runs where that is asked for
pub ends_none : (asked : Bool) (s : State) (before after : List ℕ) → asked ≡ false → after ≡ before → EndsAsAsked asked s s before after
ends_none asked s before after is same = subst (λ (b : Bool). EndsAsAsked b s s before after) (sym is) (refl, same)

pub ends_all : (asked : Bool) (s t : State) (before after : List ℕ) → asked ≡ true → EndsRuns reply_frame s t before after → EndsAsAsked asked s t before after
ends_all asked s t before after is ends = subst (λ (b : Bool). EndsAsAsked b s t before after) (sym is) ends

-- a byte is wrong
faulty : (f : StreamFault) (held : List ℕ) (place : ℕ) (left : Option (List ℕ)) → IsFault place held f → IsStreamFault f held place left
faulty (stream.Byte at name) held place left is = is
faulty (stream.CutOff at) held place left is = absurd is
faulty stream.Memory held place left is = tt

module _ {K : Type 0} (has_kept : K → K → ZonedNamespace → Type 0) (becomes : K → K → Type 0) (turns : ℕ) (ends_runs : Bool) where
  goes : (old new : SessionState) (k l : K) → becomes k l → GoesOn has_kept becomes (reader old turns ends_runs k) (reader new turns ends_runs l)
  goes old new k l kept = record { turns = refl; ends_runs = refl; keeper = kept }

  module _ (old new : SessionState) (rest : List ℕ) (count : ℕ) where
    -- a piece is taken whole without a request
    takes_all : (k : K) (s : State) (before : List ℕ) → becomes k k → new.fault ≡ old.fault → TakesAll old new rest count
        → Does has_kept becomes (reader old turns ends_runs k) s before (take count rest) (reader new turns ends_runs k) s before
    takes_all k s before kept healthy t = record {
      goes_on = goes old new k k kept;
      healthy = healthy;
      steps = [];
      stream_is = ap (λ (l : List ℕ). old.pending ++ l) (take_all count rest (omega (arith, t.all))) ∙ sym t.pending;
      counted = subst (λ (n : ℕ). (m : ℕ) → old.place ≡ behind 0 m → n ≡ behind 0 (m + 0)) (sym t.place) (counted_none old.place);
      done = refl;
    }

    pub none_asked : (k : K) (s : State) (before : List ℕ) (request : Option Request) → becomes k k → new.fault ≡ old.fault → request ≡ None
        → Takes old new rest count request
        → Does has_kept becomes (reader old turns ends_runs k) s before (take count rest) (reader new turns ends_runs k) s before
    none_asked k s before request kept healthy none takes = takes_all k s before kept healthy (subst (Takes old new rest count) none takes)

    -- a request that is taken of it is done
    takes_one : (k l : K) (s t : State) (before after : List ℕ) (r : Request) → becomes k l → new.fault ≡ old.fault
        → TakesOne old new rest count (told_of r) → IsDone has_kept r (seen s before k) (seen t after l)
        → Does has_kept becomes (reader old turns ends_runs k) s before (take count rest) (reader new turns ends_runs l) t after
    takes_one k l s t before after r kept healthy one done =
        does_step has_kept becomes (reader old turns ends_runs k) (reader new turns ends_runs l) s t before (take count rest) after (Asked r)
        (goes old new k l kept) healthy
        (sym one.frame ∙ sym (append-nil (request_frame (told_of r))) ∙ ap (λ (x : List ℕ). request_frame (told_of r) ++ x) (sym one.pending))
        (λ n is. omega (arith, one.place, is)) (one.fits, done)

    pub one_asked : (k l : K) (s t : State) (before after : List ℕ) (request : Option Request) (r : Request) → becomes k l
        → new.fault ≡ old.fault → request ≡ Some r → Takes old new rest count request → IsDone has_kept r (seen s before k) (seen t after l)
        → Does has_kept becomes (reader old turns ends_runs k) s before (take count rest) (reader new turns ends_runs l) t after
    one_asked k l s t before after request r kept healthy some takes done =
        takes_one k l s t before after r kept healthy (subst (Takes old new rest count) some takes) done

    -- what was held and the piece are the frame of a request, and then the rest of the piece
    asked : (r : Request) → TakesOne old new rest count (told_of r) → old.pending ++ rest ≡ request_frame (told_of r) ++ drop count rest
    asked r t =
        ap (λ (x : List ℕ). old.pending ++ x) (sym (take-append-drop count rest)) ∙ sym (append_assoc old.pending (take count rest) (drop count rest))
        ∙ ap (λ (x : List ℕ). x ++ drop count rest) (sym t.frame)

    -- a request that is taken of it isn't answered
    pub fails_there : (k l : K) (s t : State) (before after : List ℕ) (request : Option Request) (r : Request) (why : ServeFault)
        (left : Option (List ℕ)) → becomes k l → request ≡ Some r → Takes old new rest count request
        → Fails has_kept r (seen s before k) (seen t before l) why → after ≡ before
        → Stops has_kept becomes (reader old turns ends_runs k) s before rest left (reader new turns ends_runs l) t after why
    fails_there k l s t before after request r why left kept some takes fails same =
        subst (λ (x : List ℕ). Stops has_kept becomes (reader old turns ends_runs k) s before rest left (reader new turns ends_runs l) t x why) (sym same)
        (stops_there has_kept becomes (reader old turns ends_runs k) (reader new turns ends_runs l) s t before rest before left why (goes old new k l kept)
        (Within (Asked r) (drop count rest) (asked r (subst (Takes old new rest count) some takes)) (it_fits old new rest count request r some takes, fails) refl))

    -- a byte of it is wrong, or one was before
    broken_by : (was : Option StreamFault) (k : K) (s : State) (before : List ℕ) (f : StreamFault) (left : Option (List ℕ)) → becomes k k → old.fault ≡ was
        → Breaks old new rest f
        → Stops has_kept becomes (reader old turns ends_runs k) s before rest left (reader new turns ends_runs k) s before (fault.Stream f)
    broken_by None k s before f left kept was breaks =
        stops_there has_kept becomes (reader old turns ends_runs k) (reader new turns ends_runs k) s s before rest before left (fault.Stream f)
        (goes old new k k kept) (Idle (faulty f (old.pending ++ rest) old.place left (breaks.first was)) refl)
    broken_by (Some g) k s before f left kept was breaks =
        stops_there has_kept becomes (reader old turns ends_runs k) (reader new turns ends_runs k) s s before rest before left (fault.Stream f)
        (goes old new k k kept) (Again g was (ap fault.Stream (breaks.again g was)) refl)

    pub breaks_there : (k : K) (s : State) (before : List ℕ) (f : StreamFault) (left : Option (List ℕ)) → becomes k k → Breaks old new rest f
        → Stops has_kept becomes (reader old turns ends_runs k) s before rest left (reader new turns ends_runs k) s before (fault.Stream f)
    breaks_there k s before f left kept breaks = broken_by old.fault k s before f left kept refl breaks

  -- ---- nothing is taken

  module _ (session : SessionState) (k : K) (s : State) (kept : becomes k k) where
    -- turns are given
    pub turns_given : (t : State) (given : ℕ) (before after : List ℕ) → GivesTurns turns given s t before after
        → Does has_kept becomes (reader session turns ends_runs k) s before [] (reader session turns ends_runs k) t after
    turns_given t given before after gives =
        does_step has_kept becomes (reader session turns ends_runs k) (reader session turns ends_runs k) s t before [] after Between
        (goes session session k k kept) refl (append-nil session.pending) (counted_none session.place) ((given, gives), refl)

    -- or not answered
    pub turns_unanswered : (t : State) (before : List ℕ) (left : Option (List ℕ)) → WentRound turns s t
        → Stops has_kept becomes (reader session turns ends_runs k) s before [] left (reader session turns ends_runs k) t before fault.Memory
    turns_unanswered t before left went =
        stops_there has_kept becomes (reader session turns ends_runs k) (reader session turns ends_runs k) s t before [] before left fault.Memory
        (goes session session k k kept) (Within Between (session.pending ++ []) refl (refl, went, refl) refl)

    -- the stream ends within a frame, or a byte of it was wrong before
    cut_off_by : (was : Option StreamFault) (f : StreamFault) (before : List ℕ) (left : Option (List ℕ)) → session.fault ≡ was → IsAtEnd left
        → IsPartial session.pending → ((g : StreamFault) → session.fault ≡ Some g → f ≡ g)
        → (session.fault ≡ None → f ≡ stream.CutOff (behind session.place (length session.pending))) → (session.fault ≡ None → 0 < length session.pending)
        → Stops has_kept becomes (reader session turns ends_runs k) s before [] left (reader session turns ends_runs k) s before (fault.Stream f)
    cut_off_by (Some g) f before left was at_end partial again is some =
        stops_there has_kept becomes (reader session turns ends_runs k) (reader session turns ends_runs k) s s before [] before left (fault.Stream f)
        (goes session session k k kept) (Again g was (ap fault.Stream (again g was)) refl)
    cut_off_by None f before left was at_end partial again is some =
        stops_there has_kept becomes (reader session turns ends_runs k) (reader session turns ends_runs k) s s before [] before left (fault.Stream f)
        (goes session session k k kept)
        (Idle (subst (λ (g : StreamFault). IsStreamFault g (session.pending ++ []) session.place left) (sym (is was))
        (subst (λ (held : List ℕ). IsStreamFault (stream.CutOff (behind session.place (length session.pending))) held session.place left)
        (sym (append-nil session.pending)) (at_end, some was, partial, refl))) refl)

    pub cut_off : (f : StreamFault) (before : List ℕ) (left : Option (List ℕ)) → IsAtEnd left
        → IsPartial session.pending → ((g : StreamFault) → session.fault ≡ Some g → f ≡ g)
        → (session.fault ≡ None → f ≡ stream.CutOff (behind session.place (length session.pending))) → (session.fault ≡ None → 0 < length session.pending)
        → Stops has_kept becomes (reader session turns ends_runs k) s before [] left (reader session turns ends_runs k) s before (fault.Stream f)
    cut_off f before left at_end partial again is some = cut_off_by session.fault f before left refl at_end partial again is some

    -- not all runs are ended
    pub ending_starved : (t : State) (before after : List ℕ) (left : Option (List ℕ)) → session.pending ≡ [] → ends_runs ≡ true → IsAtEnd left
        → EndsSome reply_frame s t before after
        → Stops has_kept becomes (reader session turns ends_runs k) s before [] left (reader session turns ends_runs k) t after fault.Memory
    ending_starved t before after left whole asked at_end some =
        stops_there has_kept becomes (reader session turns ends_runs k) (reader session turns ends_runs k) s t before [] after left fault.Memory
        (goes session session k k kept) (Ending asked (append-nil session.pending ∙ whole) at_end refl some refl)
