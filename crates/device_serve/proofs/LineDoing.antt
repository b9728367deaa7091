-- Events that are done, one after another, with the turns after each where these are asked for.
use Rattle.std.proofs.Common.{◌≡◌, ℕ, Bool, true, false, List, [], ◌∷◌, ◌++◌, append-nil, append_assoc, map, Result, Ok, Err, OnOk, OnErr, inr, refl, ap, subst, sym, ◌∙◌}
use Rattle.std.specs.Prelude.{flat_map}
use Rattle.std.proofs.lemmas.List.{map-append}
use Rattle.std.proofs.lemmas.List.Concat.{flat_map-append}
use Rattle.device_events.specs.Replies.{Joins, ReplyWithData}
use Rattle.device_events.specs.ToldEvents.{ToldEvent, told_of}
use Rattle.device_events.specs.declared.event.Event.{Event}
use Rattle.device_meaning.specs.Draining.{HasDrained}
use Rattle.device_meaning.specs.Events.{HasHappened, HasServed, Occurrence, replies_to, state_after}
use Rattle.device_meaning.specs.JoinedEvents.{turn_events}
use Rattle.device_meaning.specs.Judging.{interval_judge}
use Rattle.device_meaning.specs.State.{State}
use Rattle.device_meaning.proofs.Proved.{events_in_parts, served_and_drained}
use Rattle.event_text.specs.Lines.{reply_line}
use Rattle.device_serve.specs.EndingRuns.{EndsRuns, EndsSome}
use Rattle.device_serve.specs.LineStream.{Does, EachDrained, HasAnswered, InTurns, Untold}
use Rattle.device_serve.specs.LineSteps.{IsPerhapsDone, StopsAt}

-- ---- events in parts

-- answers in two parts are in order
pub answered_joins : Joins HasAnswered
answered_joins a b c first later early late =
    late ∙ ap (λ (x : List ℕ). x ++ flat_map reply_line later) early ∙ append_assoc a (flat_map reply_line first) (flat_map reply_line later)
    ∙ ap (λ (x : List ℕ). a ++ x) (sym (flat_map-append reply_line first later))

served_more : (first later : List Event) (old between new : State) (before then after : List ℕ)
    → HasServed interval_judge first old between (HasAnswered before then) → HasServed interval_judge later between new (HasAnswered then after)
    → HasServed interval_judge (first ++ later) old new (HasAnswered before after)
served_more first later old between new before then after a b =
    let parts = events_in_parts interval_judge a.occurrences b.occurrences old in
    record {
      occurrences = a.occurrences ++ b.occurrences;
      are =
          map-append (λ (o : Occurrence). o.event) a.occurrences b.occurrences
          ∙ ap (λ (events : List ToldEvent). events ++ map (λ (o : Occurrence). o.event) b.occurrences) a.are
          ∙ ap (λ (events : List ToldEvent). map told_of first ++ events) b.are
          ∙ sym (map-append told_of first later);
      state = b.state ∙ ap (λ (s : State). state_after interval_judge b.occurrences s) a.state ∙ sym parts.state;
      replies = subst (HasAnswered before after) (sym parts.replies)
          (answered_joins before then after (replies_to interval_judge a.occurrences old)
          (replies_to interval_judge b.occurrences (state_after interval_judge a.occurrences old))
          a.replies (subst (λ (s : State). HasAnswered then after (replies_to interval_judge b.occurrences s)) a.state b.replies));
    }

each_more : (first later : List Event) (old between new : State) (early late : List ReplyWithData) → EachDrained first old between early
    → EachDrained later between new late → EachDrained (first ++ later) old new (early ++ late)
each_more [] later old between new early late a b =
    subst (λ (s : State). EachDrained later s new (early ++ late)) a.0
    (subst (λ (rs : List ReplyWithData). EachDrained later between new (rs ++ late)) (sym a.1) b)
each_more (e ∷ first) later old between new early late a b = record {
  between = a.between;
  first = a.first;
  later = a.later ++ late;
  drained = a.drained;
  then = each_more first later a.between between new a.later late a.then b;
  in_order = ap (λ (rs : List ReplyWithData). rs ++ late) a.in_order ∙ append_assoc a.first a.later late;
}

pub does_more : (drains : Bool) (first later : List Event) (old between new : State) (before then after : List ℕ)
    → Does drains first old between (HasAnswered before then) → Does drains later between new (HasAnswered then after)
    → Does drains (first ++ later) old new (HasAnswered before after)
does_more false first later old between new before then after a b = served_more first later old between new before then after a b
does_more true first later old between new before then after a b = record {
  replies = a.replies ++ b.replies;
  each = each_more first later old between new a.replies b.replies a.each b.each;
  taken = answered_joins before then after a.replies b.replies a.taken b.taken;
}

-- ---- one event

-- an event that happened was done, and its reply is the only one
happened_served : (e : Event) (old new : State) (reply : ReplyWithData) (took : List ReplyWithData → Type 0)
    → HasHappened interval_judge e old new reply → took (reply ∷ []) → HasServed interval_judge (e ∷ []) old new took
happened_served e old new reply took happened taken = record {
  occurrences = record { event = told_of e; starved = happened.starved } ∷ [];
  are = refl;
  state = happened.state;
  replies = subst (λ (r : ReplyWithData). took (r ∷ [])) happened.replied taken;
}

-- the line of a reply was added
line_added : (before after : List ℕ) (reply : ReplyWithData) → after ≡ before ++ reply_line reply → HasAnswered before after (reply ∷ [])
line_added before after reply added = added ∙ ap (λ (x : List ℕ). before ++ x) (sym (append-nil (reply_line reply)))

-- an event happened, and is answered where its line was added; else it was done all the same
module _ {T E : Type 0} (e : Event) (old new : State) (reply : ReplyWithData) (happened : HasHappened interval_judge e old new reply) where
  pub served_if : (result : Result T E) (before after : List ℕ) → OnOk result (after ≡ before ++ reply_line reply)
      → OnOk result (HasServed interval_judge (e ∷ []) old new (HasAnswered before after))
  served_if (Ok done) before after added = happened_served e old new reply (HasAnswered before after) happened (line_added before after reply added)
  served_if (Err error) before after added = tt

  pub done_anyway : (result : Result T E) → OnErr result (IsPerhapsDone e old new)
  done_anyway (Ok done) = tt
  done_anyway (Err error) = inr (happened_served e old new reply Untold happened tt)

-- an event, and the turns after it
module _ (e : Event) (old between new : State) (before then after : List ℕ) (served : HasServed interval_judge (e ∷ []) old between (HasAnswered before then)) where
  drained_each : HasDrained between new (HasAnswered then after) → Does true (e ∷ []) old new (HasAnswered before after)
  drained_each drained =
      let did = served_and_drained interval_judge HasAnswered answered_joins (e ∷ []) old between new before then after served drained in
      let replies = replies_to interval_judge (did.occurrences ++ turn_events did.runs) old in
      record {
        replies = replies;
        each = record {
          between = new;
          first = replies;
          later = [];
          drained = record {
            occurrences = did.occurrences;
            are = did.are;
            runs = did.runs;
            drains = did.drains;
            state = did.state;
            replies = refl;
            none_left = did.none_left;
          };
          then = (refl, refl);
          in_order = sym (append-nil replies);
        };
        taken = did.replies;
      }

  pub one_drained : {T E : Type 0} (drains : Bool) (result : Result T E) → drains ≡ true → OnOk result (EndsRuns reply_line between new then after)
      → OnOk result (Does drains (e ∷ []) old new (HasAnswered before after))
  one_drained drains (Err error) is drained = tt
  one_drained drains (Ok done) is drained =
      subst (λ (b : Bool). Does b (e ∷ []) old new (HasAnswered before after)) (sym is) (drained_each drained)

  pub begun_turns : {T E : Type 0} (drains : Bool) (result : Result T E) → drains ≡ true → OnErr result (EndsSome reply_line between new then after)
      → OnErr result (StopsAt drains e old new before after)
  begun_turns drains (Ok done) is given = tt
  begun_turns drains (Err error) is given = inr (InTurns is between then served given)
