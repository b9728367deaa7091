-- Events that are done one after another, up to a command that is refused.
use Rattle.std.proofs.Common.{◌≡◌, ◌≤◌, ◌<◌, ◌+◌, ◌-◌, ◌++◌, arith, ℕ, zero, suc, Bool, true, false, List, [], ◌∷◌, length, map, take, drop, take-take, take_all, Option, None, Some, is_some, Result, Ok, Err, OnOk, OnErr, IfErr, refl, ap, sym, subst, inl, inr, ◌∙◌}
use Rattle.std.proofs.lemmas.Grind.{common_steps}
use Rattle.std.proofs.lemmas.List.{drop-take, length-append, length-map, map-append, take-append-drop}
use Rattle.device_meaning.specs.Judging.{Judge}
use Rattle.device_meaning.specs.Draining.{HasDrained, HasStoppedDraining, replies_to_turns}
use Rattle.device_meaning.specs.Events.{HasServed, HasStopped, Occurrence, replies_to, state_after}
use Rattle.device_meaning.specs.JoinedEvents.{HasServedAndDrained}
use Rattle.device_meaning.specs.State.{State}
use Rattle.device_meaning.proofs.Proved.{events_in_parts, served_and_drained}
use Rattle.device_events.specs.Replies.{Joins, ReplyWithData}
use Rattle.device_events.specs.ToldEvents.{ToldEvent, told_of}
use Rattle.device_events.specs.declared.event.Event.{Event}
use Rattle.runner.specs.declared.device.Stopped.{Stopped}
use Rattle.command_exec.specs.Executed.{HasBegun, HasServedAsked, HasServedFirst, InEvents, InTurns}
use Rattle.command_exec.specs.Refused.{EndsRefused, NoneRefused}
use Rattle.command_exec.specs.steps.Serving.{Goes}
use Rattle.command_exec.specs.steps.Tallied.{Watches, tallied}
use Rattle.command_exec.specs.declared.watched.Tally.{Tally}
use Rattle.command_exec.specs.declared.watched.Watched.{Watched}
use Rattle.command_exec.proofs.Tallies.{none_in_parts, none_refused, one_refused, watches_joins}

pub on_err : {T E fact : Type 0} (result : Result T E) → fact → OnErr result fact
on_err (Ok value) holds = tt
on_err (Err error) holds = holds

-- ---- the front of a list

-- the first of a list, and the first of those after them
take_parts : {X : Type 0} (n m : ℕ) (xs : List X) → take n xs ++ take m (drop n xs) ≡ take (n + m) xs
take_parts n m xs =
    let first : take n (take (n + m) xs) ≡ take n xs = take-take n (n + m) xs (omega arith) in
    let later : drop n (take (n + m) xs) ≡ take m (drop n xs) = drop-take n m xs in
    subst (λ ys. ys ++ take m (drop n xs) ≡ take (n + m) xs) first
    (subst (λ ys. take n (take (n + m) xs) ++ ys ≡ take (n + m) xs) later (take-append-drop n (take (n + m) xs)))

-- the front of joined lists
take_joined : {X : Type 0} (n : ℕ) (xs ys : List X) → take n (xs ++ ys) ≡ take n xs ++ take (n - length xs) ys
take_joined zero xs ys = grind arith
take_joined (suc n) [] ys = let all : suc n ≡ suc n - 0 = omega arith in ap (λ k. take k ys) all
take_joined (suc n) (x ∷ xs) ys =
    let less : suc n - length (x ∷ xs) ≡ n - length xs = omega arith in
    ap (λ zs. x ∷ zs) (take_joined n xs ys) ∙ ap (λ k. x ∷ (take n xs ++ take k ys)) (sym less)

-- ---- the replies to events

module _ (judge : Judge) where
  one_reply_each : (occurrences : List Occurrence) (s : State) → length (replies_to judge occurrences s) ≡ length occurrences
  one_reply_each [] s = refl
  one_reply_each (o ∷ os) s = ap suc (one_reply_each os _)

  -- as many replies as events
  reply_each : (events : List Event) (occurrences : List Occurrence) (s : State) → map (λ (o : Occurrence). o.event) occurrences ≡ map told_of events
      → length (replies_to judge occurrences s) ≡ length events
  reply_each events occurrences s are =
      one_reply_each occurrences s ∙ sym (length-map occurrences (λ (o : Occurrence). o.event)) ∙ ap length are ∙ length-map events told_of

  -- the one reply to one event
  one_reply : (occurrences : List Occurrence) (s : State) → length occurrences ≡ 1
      → (reply : ReplyWithData) × (replies_to judge occurrences s ≡ reply ∷ [])
  one_reply [] s one = absurd (omega (arith, one))
  one_reply (o ∷ []) s one = (_, refl)
  one_reply (o ∷ p ∷ rest) s one = absurd (omega (arith, one))

-- ---- one event after another

module _ (judge : Judge) (took tooks toll : List ReplyWithData → Type 0)
    (joined : (first later : List ReplyWithData) → took first → tooks later → toll (first ++ later)) where
  -- some events were done, and then others
  served_then : (first later : List Event) (old between new : State) → HasServed judge first old between took
      → HasServed judge later between new tooks → HasServed judge (first ++ later) old new toll
  served_then first later old between new a b =
      let parts = events_in_parts judge a.occurrences b.occurrences old in
      record {
        occurrences = a.occurrences ++ b.occurrences;
        are =
            map-append (λ (o : Occurrence). o.event) a.occurrences b.occurrences
            ∙ ap (λ (events : List ToldEvent). events ++ map (λ (o : Occurrence). o.event) b.occurrences) a.are
            ∙ ap (λ (events : List ToldEvent). map told_of first ++ events) b.are
            ∙ sym (map-append told_of first later);
        state = b.state ∙ ap (λ (s : State). state_after judge b.occurrences s) a.state ∙ sym parts.state;
        replies = subst toll (sym parts.replies)
            (joined (replies_to judge a.occurrences old) (replies_to judge b.occurrences (state_after judge a.occurrences old))
            a.replies (subst (λ (s : State). tooks (replies_to judge b.occurrences s)) a.state b.replies));
      }

  -- one event more
  served_next : (events : List Event) (index : ℕ) (later : List Event) (old between new : State) → later ≡ take 1 (drop index events)
      → HasServed judge (take index events) old between took → HasServed judge later between new tooks
      → HasServed judge (take (index + 1) events) old new toll
  served_next events index later old between new is a b =
      subst (λ (list : List Event). HasServed judge list old new toll) (take_parts index 1 events)
      (subst (λ (list : List Event). HasServed judge (take index events ++ list) old new toll) is
      (served_then (take index events) later old between new a b))

module _ (judge : Judge) where
  -- the first events were done, and of the next ones some more, of which the last reply wasn't taken
  pub begun_next : (events : List Event) (index : ℕ) (later : List Event) (old between new : State) (took tooks : List ReplyWithData → Type 0) (done : ℕ)
      → later ≡ take 1 (drop index events) → index + 1 ≤ length events
      → HasServed judge (take index events) old between took → HasStopped judge later between new tooks done → HasBegun judge events old new
  begun_next events index later old between new took tooks done is within a b =
      let parts = events_in_parts judge a.occurrences b.occurrences old in
      let few : done ≤ 1 = grind (arith, b.within, is) in
      let one : take done later ≡ take done (drop index events) = ap (take done) is ∙ take-take done 1 (drop index events) few in
      InEvents (index + done) (record {
        some = omega (arith, b.some);
        within = omega (arith, few, within);
        occurrences = a.occurrences ++ b.occurrences;
        are =
            map-append (λ (o : Occurrence). o.event) a.occurrences b.occurrences
            ∙ ap (λ (list : List ToldEvent). list ++ map (λ (o : Occurrence). o.event) b.occurrences) a.are
            ∙ ap (λ (list : List ToldEvent). map told_of (take index events) ++ list) b.are
            ∙ sym (map-append told_of (take index events) (take done later))
            ∙ ap (map told_of) (ap (λ (list : List Event). take index events ++ list) one ∙ take_parts index done events);
        state = b.state ∙ ap (λ (s : State). state_after judge b.occurrences s) a.state ∙ sym parts.state;
        replies = tt;
      })

  -- of their replies less is said
  pub first_begun : (events : List Event) (old new : State) (took : List ReplyWithData → Type 0) → HasServedFirst judge events old new took → HasBegun judge events old new
  first_begun events old new took first = InEvents first.done (record {
    some = first.some;
    within = first.within;
    occurrences = first.served.occurrences;
    are = first.served.are;
    state = first.served.state;
    replies = tt;
  })

  -- events, of which the reply to the last was refused
  pub stops_in_events : (events : List Event) (old new : State) (took : List ReplyWithData → Type 0) (done : ℕ)
      → HasStopped judge events old new took done → HasBegun judge events old new
  stops_in_events events old new took done stopped = InEvents done (record {
    some = stopped.some;
    within = stopped.within;
    occurrences = stopped.occurrences;
    are = stopped.are;
    state = stopped.state;
    replies = tt;
  })

  -- turns, of which the reply to the last was, behind events that were all done
  pub stops_in_turns : (events : List Event) (old between new : State) (took tooks : List ReplyWithData → Type 0) (result : Result (Unit {0}) Stopped)
      → HasServed judge events old between took → IfErr result (λ stopped. HasStoppedDraining between new tooks stopped.done)
      → OnErr result (HasBegun judge events old new)
  stops_in_turns events old between new took tooks (Ok done) served stopped = tt
  stops_in_turns events old between new took tooks (Err error) served stopped = InTurns between error.done
      (record { occurrences = served.occurrences; are = served.are; state = served.state; replies = tt })
      (record {
        runs = stopped.runs;
        lowest = stopped.lowest;
        some = stopped.some;
        given = stopped.given;
        few = stopped.few;
        state = stopped.state;
        replies = tt;
      })

  served_weaker : (events : List Event) (old new : State) (took tooks : List ReplyWithData → Type 0) → ((replies : List ReplyWithData) → took replies → tooks replies)
      → HasServed judge events old new took → HasServed judge events old new tooks
  served_weaker events old new took tooks so did = record { occurrences = did.occurrences; are = did.are; state = did.state; replies = so _ did.replies }

  -- of their replies it was said too that none is a refusal
  pub plainly : (events : List Event) (old new : State) (took : List ReplyWithData → Type 0)
      → HasServed judge events old new (λ replies. took replies × NoneRefused replies) → HasServed judge events old new took
  plainly events old new took did =
      served_weaker events old new (λ replies. took replies × NoneRefused replies) took (λ replies took. took.0) did

  pub drained_weaker : (events : List Event) (old new : State) (took tooks : List ReplyWithData → Type 0) → ((replies : List ReplyWithData) → took replies → tooks replies)
      → HasServedAndDrained judge events old new took → HasServedAndDrained judge events old new tooks
  drained_weaker events old new took tooks so did = record {
    occurrences = did.occurrences;
    are = did.are;
    runs = did.runs;
    drains = did.drains;
    state = did.state;
    replies = so _ did.replies;
    none_left = did.none_left;
  }

  pub asked_weaker : (stops : Bool) (events : List Event) (old new : State) (took tooks : List ReplyWithData → Type 0)
      → ((replies : List ReplyWithData) → took replies → tooks replies) → HasServedAsked judge stops events old new took → HasServedAsked judge stops events old new tooks
  asked_weaker stops events old new took tooks so (inl did) = inl (drained_weaker events old new
      (λ replies. took replies × (stops ≡ true → NoneRefused (take (length events) replies)))
      (λ replies. tooks replies × (stops ≡ true → NoneRefused (take (length events) replies)))
      (λ replies did. (so replies did.0, did.1)) did)
  asked_weaker stops events old new took tooks so (inr did) = inr (
    did.0,
    record {
      done = did.1.done;
      some = did.1.some;
      within = did.1.within;
      served = served_weaker (take did.1.done events) old new (λ replies. took replies × EndsRefused replies) (λ replies. tooks replies × EndsRefused replies)
          (λ replies did. (so replies did.0, did.1)) did.1.served;
    },
  )

  -- all events were done, and that they stop was not asked for
  pub asked_of_all : {E : Type 0} (stops : Bool) (events : List Event) (old new : State) (took : List ReplyWithData → Type 0) (result : Result (Unit {0}) E) → stops ≡ false
      → OnOk result (HasServedAndDrained judge events old new took) → OnOk result (HasServedAsked judge stops events old new took)
  asked_of_all stops events old new took (Err error) goes did = tt
  asked_of_all stops events old new took (Ok done) goes did = inl (drained_weaker events old new took
      (λ replies. took replies × (stops ≡ true → NoneRefused (take (length events) replies)))
      (λ replies took. (took, λ stops. absurd (cc))) did)

  -- that they stop was
  pub asked_to_stop : {E : Type 0} (stops : Bool) (events : List Event) (old new : State) (took : List ReplyWithData → Type 0) (result : Result (Unit {0}) E) → stops ≡ true
      → OnOk result (HasServedAsked judge true events old new took) → OnOk result (HasServedAsked judge stops events old new took)
  asked_to_stop stops events old new took result so did =
      subst (λ (s : Bool). OnOk result (HasServedAsked judge s events old new took)) (sym so) did

-- ---- events and turns behind them

module _ (judge : Judge) {T : Type 0} (took : T → T → List ReplyWithData → Type 0) (joins : Joins took) (events : List Event) (old between new : State)
    (before then after : T) where
  -- a drain, behind events that were all done
  pub serves_and_drains : (result : Result (Unit {0}) Stopped) → HasServed judge events old between (took before then)
      → OnOk result (HasDrained between new (took then after)) → OnOk result (HasServedAndDrained judge events old new (took before after))
  serves_and_drains (Err error) served drained = tt
  serves_and_drains (Ok done) served drained = served_and_drained judge took joins events old between new before then after served drained

  -- what takes the replies goes on
  pub goes_on : (result : Result (Unit {0}) Stopped) → HasServed judge events old between (took before then)
      → OnOk result (HasDrained between new (took then after))
      → IfErr result (λ stopped. HasStoppedDraining between new (took then after) stopped.done) → Goes (took before after)
  goes_on (Ok done) served drained stopped = (_, joins before then after _ _ served.replies drained.replies)
  goes_on (Err error) served drained stopped = (_, joins before then after _ _ served.replies stopped.replies)

-- ---- where none is refused

-- replies are taken, and none of them is a refusal
abbrev NoneOf : {T : Type 0} → (T → T → List ReplyWithData → Type 0) → T → T → List ReplyWithData → Type 0
NoneOf took old new replies = took old new replies × NoneRefused replies

-- replies are taken, and none of so many of them, from the front on, is a refusal; so many are left of these behind them
module _ {T : Type 0} (took : T → T → List ReplyWithData → Type 0) (joins : Joins took) where
  abbrev Front : T × ℕ → T × ℕ → List ReplyWithData → Type 0
  Front old new replies = took old.0 new.0 replies × (new.1 ≡ old.1 - length replies) × NoneRefused (take old.1 replies)

  front_joins : Joins Front
  front_joins a b c first later early late =
      let long : length (first ++ later) ≡ length first + length later = length-append first later in
      let none : NoneRefused (take (a.1 - length first) later) = subst (λ (n : ℕ). NoneRefused (take n later)) early.1 late.2 in (
        joins a.0 b.0 c.0 first later early.0 late.0,
        omega (arith, long, early.1, late.1),
        subst NoneRefused (sym (take_joined a.1 first later)) (none_in_parts (take a.1 first) (take (a.1 - length first) later) early.2 none),
      )

  pub none_joins : Joins (NoneOf took)
  none_joins a b c first later early late = (joins a b c first later early.0 late.0, none_in_parts first later early.1 late.1)

  module _ (judge : Judge) (events : List Event) (old between new : State) (before then after : T) where
    -- events of which none is refused are all done, and then turns
    stops_nowhere : HasServed judge events old between (λ replies. took before then replies × NoneRefused replies) → HasDrained between new (took then after)
        → HasServedAndDrained judge events old new (λ replies. took before after replies × NoneRefused (take (length events) replies))
    stops_nowhere served drained =
        let each : length (replies_to judge served.occurrences old) ≡ length events = reply_each judge events served.occurrences old served.are in
        let turns = replies_to_turns drained.runs between in
        let all : take (length events) (replies_to judge served.occurrences old) ≡ replies_to judge served.occurrences old = take_all (length events) _ (omega (arith, each)) in
        let did = served_and_drained judge Front front_joins events old between new (before, length events) (then, 0) (after, 0)
        (record {
          occurrences = served.occurrences;
          are = served.are;
          state = served.state;
          replies = (served.replies.0, omega (arith, each), subst NoneRefused (sym all) served.replies.1);
        })
        (record {
          runs = drained.runs;
          drains = drained.drains;
          state = drained.state;
          replies = (drained.replies, omega arith, refl);
        }) in
        record {
          occurrences = did.occurrences;
          are = did.are;
          runs = did.runs;
          drains = did.drains;
          state = did.state;
          replies = (did.replies.0, did.replies.2);
          none_left = did.none_left;
        }

    pub stops_never : (result : Result (Unit {0}) Stopped) → HasServed judge events old between (λ replies. took before then replies × NoneRefused replies)
        → OnOk result (HasDrained between new (took then after)) → OnOk result (HasServedAsked judge true events old new (took before after))
    stops_never (Err error) served drained = tt
    stops_never (Ok done) served drained =
        let did = stops_nowhere served drained in
        inl (record {
          occurrences = did.occurrences;
          are = did.are;
          runs = did.runs;
          drains = did.drains;
          state = did.state;
          replies = (did.replies.0, λ stops. did.replies.1);
          none_left = did.none_left;
        })

-- ---- one event after another, which are counted

pub no_first : (first : Option ℕ) → is_some first ≡ false → first ≡ None
no_first None none = refl
no_first (Some i) none = absurd (cc)

module _ (judge : Judge) {T : Type 0} (took : T → T → List ReplyWithData → Type 0) (joins : Joins took) (events : List Event) (index : ℕ) (later : List Event)
    (old between new : State) (before then after : Watched T) (is : later ≡ take 1 (drop index events)) (within : index < length events)
    (still : then.tally.first ≡ None)
    (a : HasServed judge (take index events) old between (λ replies. Watches took before then replies × NoneRefused replies))
    (b : HasServed judge later between new (Watches took then after)) where
  -- the next of them was refused
  pub refused_next : is_some after.tally.first ≡ true → HasServedFirst judge events old new (Watches took before after)
  refused_next some =
      let one : length b.occurrences ≡ 1 = grind (arith, common_steps, length-map, b.are, is, within) in
      record {
        done = index + 1;
        some = omega arith;
        within = omega (arith, within);
        served = served_next judge (λ replies. Watches took before then replies × NoneRefused replies)
            (λ replies. Watches took then after replies × ((reply : ReplyWithData) × (replies ≡ reply ∷ [])))
            (λ replies. Watches took before after replies × EndsRefused replies)
            (λ first later early late. (
              watches_joins took joins before then after first later early.0 late.0,
              record {
                before = first;
                last = late.1.0;
                are = ap (λ (replies : List ReplyWithData). first ++ replies) late.1.1;
                none_before = early.1;
                refused = one_refused late.1.0 then.tally still
                    (sym (ap (λ (tally : Tally). is_some tally.first) (late.0.1 ∙ ap (tallied then.tally) late.1.1)) ∙ some);
              },
            )) events index later old between new is a
            (record { occurrences = b.occurrences; are = b.are; state = b.state; replies = (b.replies, one_reply judge b.occurrences between one) });
      }

  -- it wasn't
  pub unrefused_next : is_some after.tally.first ≡ false
      → HasServed judge (take (index + 1) events) old new (λ replies. Watches took before after replies × NoneRefused replies)
  unrefused_next none = served_next judge (NoneOf (Watches took) before then) (NoneOf (Watches took) then after) (NoneOf (Watches took) before after)
      (none_joins (Watches took) (watches_joins took joins) before then after) events index later old between new is a
      (record {
        occurrences = b.occurrences;
        are = b.are;
        state = b.state;
        replies = (b.replies, none_refused (replies_to judge b.occurrences between) then.tally still (ap (λ (tally : Tally). tally.first) (sym b.replies.1) ∙ no_first after.tally.first none));
      })
