-- Lists of events, one behind another, and turns as events.
use Rattle.std.proofs.Common.{suc, ◌≡◌, ℕ, List, [], ◌∷◌, ◌++◌, map, None, refl, ap, sym, subst, ◌∙◌}
use Rattle.std.proofs.lemmas.List.{map-append}
use Rattle.std.proofs.lemmas.List.Sums.{fold-append}
use Rattle.device_meaning.specs.Judging.{Judge}
use Rattle.common_definitions.proofs.Proved.{all_append}
use Rattle.device_events.specs.Replies.{Joins, ReplyWithData}
use Rattle.device_meaning.specs.Draining.{AreLowest, Drains, lowest_run, replies_to_turns, state_after_turns}
use Rattle.device_meaning.specs.Events.{CarriesBytes, Occurrence, replies_to, state_after}
use Rattle.device_meaning.specs.Happenings.{happens, turned}
use Rattle.device_meaning.specs.JoinedEvents.{DrainedByTurns, DrainedInOneWay, EventsInParts, EventsJoin, OneReplyEach, ServedAndDrained, ServedInParts, turn_events}
use Rattle.device_meaning.specs.State.{State}
use Rattle.device_events.specs.ToldEvents.{ToldEvent, told_of}

pub events_join : EventsJoin
events_join first later are more = all_append (λ (o : Occurrence). CarriesBytes o.event) first later are more

module _ (judge : Judge) where
  abbrev next : Occurrence → State → State
  next o s = (happens judge s o.starved o.event).state

  pub one_reply_each : OneReplyEach judge
  one_reply_each [] s = refl
  one_reply_each (o ∷ os) s = ap suc (one_reply_each os (next o s))

  replies_to-append : (first later : List Occurrence) (s : State)
      → replies_to judge (first ++ later) s
      ≡ replies_to judge first s ++ replies_to judge later (state_after judge first s)
  replies_to-append [] later s = refl
  replies_to-append (o ∷ os) later s =
      ap (λ (replies : List ReplyWithData). (happens judge s o.starved o.event).reply ∷ replies) (replies_to-append os later (next o s))

  pub events_in_parts : EventsInParts judge
  events_in_parts first later s = record { replies = replies_to-append first later s; state = fold-append _ s first later }

  state_in_parts : (first later : List Occurrence) (old between new : State)
      → between ≡ state_after judge first old → new ≡ state_after judge later between
      → new ≡ state_after judge (first ++ later) old
  state_in_parts first later old between new state last =
      last ∙ ap (state_after judge later) state ∙ sym (fold-append _ old first later)

  -- ---- turns as events

  turns_state : (runs : List ℕ) (s : State) → state_after_turns runs s ≡ state_after judge (turn_events runs) s
  turns_state [] s = refl
  turns_state (run ∷ runs) s = turns_state runs (turned s run).state

  turns_replies : (runs : List ℕ) (s : State) → replies_to_turns runs s ≡ replies_to judge (turn_events runs) s
  turns_replies [] s = refl
  turns_replies (run ∷ runs) s =
      ap (λ (replies : List ReplyWithData). (turned s run).reply ∷ replies) (turns_replies runs (turned s run).state)

  pub drained_by_turns : DrainedByTurns judge
  drained_by_turns runs s = record { replies = turns_replies runs s; state = turns_state runs s }

  -- ---- what takes the replies, in two parts

  module _ {T : Type 0} (took : T → T → List ReplyWithData → Type 0) (joins : Joins took) where
    taken_in_parts : (first later : List Occurrence) (old between : State) (before then after : T) → between ≡ state_after judge first old
        → took before then (replies_to judge first old) → took then after (replies_to judge later between)
        → took before after (replies_to judge (first ++ later) old)
    taken_in_parts first later old between before then after state early late =
        let done = replies_to judge first old in
        subst (took before after) (sym (replies_to-append first later old))
        (subst (λ (s : State). took before after (done ++ replies_to judge later s)) state
        (joins before then after done (replies_to judge later between) early late))

    pub served_in_parts : ServedInParts judge took
    served_in_parts first later old between new before then after a b = record {
      occurrences = a.occurrences ++ b.occurrences;
      are =
          map-append (λ (o : Occurrence). o.event) a.occurrences b.occurrences
          ∙ ap (λ (events : List ToldEvent). events ++ map (λ (o : Occurrence). o.event) b.occurrences) a.are
          ∙ ap (λ (events : List ToldEvent). map told_of first ++ events) b.are
          ∙ sym (map-append told_of first later);
      state = state_in_parts a.occurrences b.occurrences old between new a.state b.state;
      replies = taken_in_parts a.occurrences b.occurrences old between before then after a.state a.replies b.replies;
    }

    pub served_and_drained : ServedAndDrained judge took
    served_and_drained events old between new before then after served drained =
        let runs = drained.runs in
        let turns = turn_events runs in
        record {
          occurrences = served.occurrences;
          are = served.are;
          runs = runs;
          drains = subst (λ (s : State). Drains s runs) served.state drained.drains;
          state = state_in_parts served.occurrences turns old between new served.state (drained.state ∙ turns_state runs between);
          replies = taken_in_parts served.occurrences turns old between before then after served.state served.replies
              (subst (took then after) (turns_replies runs between) drained.replies);
          none_left = ap lowest_run drained.state ∙ drained.drains.none_left;
        }

-- ---- what drains a state

only_way : (runs others : List ℕ) (s : State) → AreLowest runs s → lowest_run (state_after_turns runs s) ≡ None
    → AreLowest others s → lowest_run (state_after_turns others s) ≡ None → runs ≡ others
only_way [] [] s a none b gone = refl
only_way [] (other ∷ others) s a none b gone = absurd (let clash = b.0 in cc)
only_way (run ∷ runs) [] s a none b gone = absurd (let clash = a.0 in cc)
only_way (run ∷ runs) (other ∷ others) s a none b gone =
    let low = a.0 in
    let too = b.0 in
    let same : other ≡ run = cc in
    let lowest = subst (λ (r : ℕ). AreLowest others (turned s r).state) same b.1 in
    let left = subst (λ (r : ℕ). lowest_run (state_after_turns others (turned s r).state) ≡ None) same gone in
    ap (λ (rs : List ℕ). run ∷ rs) (only_way runs others (turned s run).state a.1 none lowest left)
    ∙ ap (λ (r : ℕ). r ∷ others) (sym same)

pub drained_in_one_way : DrainedInOneWay
drained_in_one_way s runs others a b = only_way runs others s a.lowest a.none_left b.lowest b.none_left
