-- A run takes its own turns, whatever comes between them.
use Rattle.std.proofs.Common.{◌≡◌, ◌≢◌, ℕ, suc, ◌+◌, ◌<◌, ◌≤◌, Bool, true, false, cond, List, [], ◌∷◌, length, map, take, get_or, Option, Some, None, refl, ap, sym, subst, ◌∙◌, arith, get_or-set_other, get_or-set_same}
use Rattle.std.specs.Prelude.{is_none, nat_eq, position}
use Rattle.std.specs.List.{filter, zip}
use Rattle.std.proofs.lemmas.Bool.{eqb-false, eqb-true}
use Rattle.std.proofs.lemmas.List.Quantifiers.{position-Some}
use Rattle.std.proofs.lemmas.List.Sums.{sum_by-cons}
use Rattle.zone_state.specs.declared.status.TheConstants.Status.{SUCCESS}
use Rattle.zone_resources.specs.Counts.{one_if}
use Rattle.zone_resources.proofs.Proved.{there}
use Rattle.device_meaning.specs.EventReplies.{Happening, IsCompletionOf}
use Rattle.device_meaning.specs.Events.{Occurrence, replies_to}
use Rattle.device_meaning.specs.Happenings.{admitted_place, happens, place_left, take_turn, turn_reply, turned}
use Rattle.device_meaning.specs.Judging.{Judge}
use Rattle.device_meaning.specs.Outcome.{EndsWithLast, Ending, Succeeds, Turn}
use Rattle.device_meaning.specs.State.{Place, State, place_at}
use Rattle.device_meaning.proofs.Proved.{after_event, success_other, turned_is}
use Rattle.device_events.specs.Replies.{ReplyWithData}
use Rattle.device_events.specs.ToldEvents.{ToldEvent}
use Rattle.device_events.specs.ToldEvents as told
use Rattle.pushdown.specs.Pushdown.{is_turn_of, own_turns}
use Rattle.device_laws.specs.Laws.{IsCompletedAmong, own_answers}

-- a free run number isn't that of an active run
pub not_free : (places : List (Option Place)) (free run : ℕ) (place : Place) → position is_none places ≡ Some free
    → get_or places run None ≡ Some place → run ≢ free
not_free places free run place at is same =
    let none = (position-Some is_none places free None at).1 in
    let some : is_none (get_or places run None) ≡ false = ap is_none is in
    let clash : is_none (get_or places run None) ≡ true = subst (λ (n : ℕ). is_none (get_or places n None) ≡ true) (sym same) none in
    cc

not_own : (run other : ℕ) (e : ToldEvent) → e ≡ told.Turned other → is_turn_of run e ≡ false → run ≢ other
not_own run other e is foreign =
    let differs : nat_eq other run ≡ false = subst (λ (x : ToldEvent). is_turn_of run x ≡ false) is foreign in
    λ same. eqb-false other run differs (sym same)

-- how a turn ends its run doesn't depend on the turns that its place has
same_reply : (run : ℕ) (place : Place) (turns : List Turn) (ending : Option Ending)
    → turn_reply run (record place { turns = turns }) ending ≡ turn_reply run place ending
same_reply run place turns None = refl
same_reply run place turns (Some ending) = refl

module _ (judge : Judge) (run : ℕ) where
  -- an event of others leaves the run
  foreign_leaves : (s : State) (o : Occurrence) (place : Place) → is_turn_of run o.event ≡ false → place_at s run ≡ Some place
      → place_at (happens judge s o.starved o.event).state run ≡ Some place
  foreign_leaves s o place foreign at =
      after_event judge (λ (t : State). place_at t run ≡ Some place) s o.starved o.event (record {
        same = at;
        step = λ step same is. at;
        load = λ sub load t are takes. at;
        start = λ sub command first passed free some.
            get_or-set_other s.places first run (Some (admitted_place sub s command)) None (not_free s.places first run place free at) ∙ at;
        turn = λ other p turn later is here first.
            get_or-set_other s.places other run (place_left p later turn.ending) None (not_own run other o.event is foreign) ∙ at;
      })

  own_is : (s : State) (starved : Bool) (e : ToldEvent) → is_turn_of run e ≡ true → happens judge s starved e ≡ turned s run
  own_is s starved (told.Submitted queue entry input) mine = cc
  own_is s starved (told.Turned other) mine = ap (turned s) (eqb-true other run mine)
  own_is s starved (told.Faulted zone state) mine = cc

  -- a run of this place with these turns left, of which the last alone ends it, with success
  pub record Goes (place : Place) (s : State) (turns : List Turn) : Type 0 where
    pub at : place_at s run ≡ Some (record place { turns = turns })
    pub ends : EndsWithLast turns

  module _ (place : Place) where
    abbrev answer : Turn → ReplyWithData
    answer turn = turn_reply run place turn.ending

    pub foreign_goes : (s : State) (o : Occurrence) (turns : List Turn) → is_turn_of run o.event ≡ false → Goes place s turns
        → Goes place (happens judge s o.starved o.event).state turns
    foreign_goes s o turns foreign goes = record { at = foreign_leaves s o (record place { turns = turns }) foreign goes.at; ends = goes.ends }

    -- what a turn of its own comes to
    own_takes : (s : State) (o : Occurrence) (turn : Turn) (later : List Turn) → is_turn_of run o.event ≡ true → Goes place s (turn ∷ later)
        → happens judge s o.starved o.event ≡ take_turn s run (record place { turns = turn ∷ later }) (turn ∷ later)
    own_takes s o turn later mine goes =
        own_is s o.starved o.event mine ∙ turned_is s run (record place { turns = turn ∷ later }) turn later goes.at refl

    pub answers_own : (s : State) (o : Occurrence) (turn : Turn) (later : List Turn) → is_turn_of run o.event ≡ true → Goes place s (turn ∷ later)
        → (happens judge s o.starved o.event).reply ≡ answer turn
    answers_own s o turn later mine goes =
        ap (λ (h : Happening). h.reply) (own_takes s o turn later mine goes) ∙ same_reply run place (turn ∷ later) turn.ending

    pub own_goes : (s : State) (o : Occurrence) (turn next : Turn) (later : List Turn) → is_turn_of run o.event ≡ true
        → Goes place s (turn ∷ next ∷ later) → Goes place (happens judge s o.starved o.event).state (next ∷ later)
    own_goes s o turn next later mine goes =
        let here = record place { turns = turn ∷ next ∷ later } in
        record {
          at =
              ap (λ (h : Happening). place_at h.state run) (own_takes s o turn (next ∷ later) mine goes)
              ∙ get_or-set_same s.places run (place_left here (next ∷ later) turn.ending) None (there s.places run here goes.at)
              ∙ ap (place_left here (next ∷ later)) goes.ends.0;
          ends = goes.ends.1;
        }

    -- ---- once it had as many turns as it has, its completion is among the replies

    completed_by : (ending : Option Ending) → Succeeds ending → IsCompletionOf place.queue place.cid (λ status. status ≡ SUCCESS) (turn_reply run place ending)
    completed_by None ends = absurd ends
    completed_by (Some ending) ends =
        record { status = ending.status; code = (success_other ending.status ends).code; dw0 = ending.dw0; dw1 = ending.dw1; output = []; is = refl; so = ends }

    abbrev Completes : List Occurrence → Type 0
    Completes events = (s : State) (turns : List Turn) → Goes place s turns → length turns ≤ own_turns run events → IsCompletedAmong judge s run place events

    later_completes : (o : Occurrence) (os : List Occurrence) (s : State)
        → IsCompletedAmong judge (happens judge s o.starved o.event).state run place os → IsCompletedAmong judge s run place (o ∷ os)
    later_completes o os s rest = record {
      before = o ∷ rest.before;
      last = rest.last;
      later = rest.later;
      are = ap (λ (events : List Occurrence). o ∷ events) rest.are;
      own = rest.own;
      reply = rest.reply;
    }

    own_completes : (o : Occurrence) (os : List Occurrence) → Completes os → is_turn_of run o.event ≡ true → (s : State) (turns : List Turn)
        → Goes place s turns → length turns ≤ suc (own_turns run os) → IsCompletedAmong judge s run place (o ∷ os)
    own_completes o os rest mine s [] goes few = absurd goes.ends
    own_completes o os rest mine s (turn ∷ []) goes few = record {
      before = [];
      last = o;
      later = os;
      are = refl;
      own = mine;
      reply = subst (IsCompletionOf place.queue place.cid (λ status. status ≡ SUCCESS)) (sym (answers_own s o turn [] mine goes))
          (completed_by turn.ending goes.ends);
    }
    own_completes o os rest mine s (turn ∷ next ∷ turns) goes few =
        later_completes o os s
        (rest (happens judge s o.starved o.event).state (next ∷ turns) (own_goes s o turn next turns mine goes) (omega (arith, few)))

    either_completes : (o : Occurrence) (os : List Occurrence) → Completes os → (mine : Bool) → is_turn_of run o.event ≡ mine → (s : State) (turns : List Turn)
        → Goes place s turns → length turns ≤ one_if mine + own_turns run os → IsCompletedAmong judge s run place (o ∷ os)
    either_completes o os rest true mine s turns goes few = own_completes o os rest mine s turns goes (omega (arith, few))
    either_completes o os rest false mine s turns goes few =
        later_completes o os s (rest (happens judge s o.starved o.event).state turns (foreign_goes s o turns mine goes) (omega (arith, few)))

    pub completes : (events : List Occurrence) → Completes events
    completes [] s [] goes few = absurd goes.ends
    completes [] s (turn ∷ turns) goes few = absurd (omega (arith, few))
    completes (o ∷ os) s turns goes few =
        either_completes o os (completes os) (is_turn_of run o.event) refl s turns goes
        (omega (arith, few, sum_by-cons (λ (x : Occurrence). cond (is_turn_of run x.event) 1 0) o os))

    -- ---- its turns are answered as they are fixed

    abbrev Answers : List Occurrence → Type 0
    Answers events = (s : State) (turns : List Turn) → Goes place s turns → own_turns run events < length turns
        → own_answers run events (replies_to judge events s) ≡ map answer (take (own_turns run events) turns)

    -- the replies to the later of the turns, and before them the first's, if it is one of the run's
    abbrev from : Occurrence → ReplyWithData → List Occurrence → List ReplyWithData → Bool → List ReplyWithData
    from o r os rs mine =
        let others = filter (λ (x : Occurrence × ReplyWithData). is_turn_of run x.0.event) (zip os rs) in
        map (λ (x : Occurrence × ReplyWithData). x.1) (cond mine ((o, r) ∷ others) others)

    own_answered : (o : Occurrence) (os : List Occurrence) → Answers os → is_turn_of run o.event ≡ true → (s : State) (turns : List Turn)
        → Goes place s turns → suc (own_turns run os) < length turns
        → let h = happens judge s o.starved o.event in
        h.reply ∷ own_answers run os (replies_to judge os h.state) ≡ map answer (take (suc (own_turns run os)) turns)
    own_answered o os rest mine s [] goes less = absurd goes.ends
    own_answered o os rest mine s (turn ∷ []) goes less = absurd (omega (arith, less))
    own_answered o os rest mine s (turn ∷ next ∷ turns) goes less =
        let h = happens judge s o.starved o.event in
        ap (λ (r : ReplyWithData). r ∷ own_answers run os (replies_to judge os h.state)) (answers_own s o turn (next ∷ turns) mine goes)
        ∙ ap (λ (rs : List ReplyWithData). answer turn ∷ rs)
        (rest h.state (next ∷ turns) (own_goes s o turn next turns mine goes) (omega (arith, less)))

    either_answered : (o : Occurrence) (os : List Occurrence) → Answers os → (mine : Bool) → is_turn_of run o.event ≡ mine → (s : State) (turns : List Turn)
        → Goes place s turns → one_if mine + own_turns run os < length turns
        → let h = happens judge s o.starved o.event in
        from o h.reply os (replies_to judge os h.state) mine ≡ map answer (take (one_if mine + own_turns run os) turns)
    either_answered o os rest true mine s turns goes less =
        let one : one_if true + own_turns run os ≡ suc (own_turns run os) = omega arith in
        own_answered o os rest mine s turns goes (omega (arith, less))
        ∙ ap (λ (n : ℕ). map answer (take n turns)) (sym one)
    either_answered o os rest false mine s turns goes less =
        let none : one_if false + own_turns run os ≡ own_turns run os = omega arith in
        rest (happens judge s o.starved o.event).state turns (foreign_goes s o turns mine goes) (omega (arith, less))
        ∙ ap (λ (n : ℕ). map answer (take n turns)) (sym none)

    pub answered : (events : List Occurrence) → Answers events
    answered [] s turns goes less = refl
    answered (o ∷ os) s turns goes less =
        let own = sum_by-cons (λ (x : Occurrence). cond (is_turn_of run x.event) 1 0) o os in
        either_answered o os (answered os) (is_turn_of run o.event) refl s turns goes (omega (arith, less, own))
        ∙ ap (λ (n : ℕ). map answer (take n turns)) (sym own)
