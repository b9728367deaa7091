-- Events that are done one after another, one event more.
use Rattle.std.proofs.Common.{◌≡◌, ℕ, ◌+◌, ◌-◌, ◌<◌, List, [], ◌∷◌, ◌++◌, append-nil, length, map, take, get_or, refl, ap, subst, sym, ◌∙◌, arith}
use Rattle.std.proofs.lemmas.List.{length-map, length-take-le, map_push, take_at, take_more}
use Rattle.device_meaning.specs.Judging.{Judge}
use Rattle.device_events.specs.Replies.{Joins, ReplyWithData, data_length}
use Rattle.device_meaning.specs.Events.{AreOccurrencesOf, HasHappened, HasServed, HasStopped, Occurrence, replies_to, state_after}
use Rattle.device_meaning.specs.Happenings.{happens}
use Rattle.device_meaning.specs.State.{State}
use Rattle.device_events.specs.declared.event.Event.{Event}
use Rattle.device_events.specs.ToldEvents.{ToldEvent, told_of}
use Rattle.device_events.specs.declared.reply.Reply.{Reply}
use Rattle.device_meaning.proofs.Proved.{events_in_parts}

-- a reply with the bytes that go with it
pub with_data : (r : Reply) (n : ℕ) (xs : List ℕ) → n ≡ data_length r
    → ◌≡◌ {A = ReplyWithData} (record { reply = r; bytes = take n xs }) (record { reply = r; bytes = take (data_length r) xs })
with_data r n xs count =
    let of : ℕ → ReplyWithData = λ m. record { reply = r; bytes = take m xs } in ap of count

-- ---- the event at `i` happened, after those before it

module _ (judge : Judge) (es : List Event) (i : ℕ) (e : Event) (old now new : State) (reply : ReplyWithData) where
  are_more : (os : List Occurrence) (o : Occurrence) → i < length es → e ≡ get_or es i e → o.event ≡ told_of e → AreOccurrencesOf (take i es) os
      → AreOccurrencesOf (take (i + 1) es) (os ++ o ∷ [])
  are_more os o within item is are =
      map_push (λ (x : Occurrence). x.event) os o
      ∙ ap (λ (xs : List ToldEvent). xs ++ o.event ∷ []) are
      ∙ ap (λ (x : ToldEvent). map told_of (take i es) ++ x ∷ []) (is ∙ ap told_of item)
      ∙ sym (map_push told_of (take i es) (get_or es i e))
      ∙ sym (ap (map told_of) (take_more es i e within))

  state_more : (os : List Occurrence) (o : Occurrence) → now ≡ state_after judge os old → new ≡ (happens judge now o.starved o.event).state
      → new ≡ state_after judge (os ++ o ∷ []) old
  state_more os o before step =
      step ∙ ap (λ (s : State). (happens judge s o.starved o.event).state) before ∙ sym ((events_in_parts judge os (o ∷ []) old).state)

  replies_more : (os : List Occurrence) (o : Occurrence) → now ≡ state_after judge os old → reply ≡ (happens judge now o.starved o.event).reply
      → replies_to judge (os ++ o ∷ []) old ≡ replies_to judge os old ++ reply ∷ []
  replies_more os o before step =
      (events_in_parts judge os (o ∷ []) old).replies
      ∙ ap (λ (x : ReplyWithData). replies_to judge os old ++ x ∷ [])
      (sym (step ∙ ap (λ (s : State). (happens judge s o.starved o.event).reply) before))

  module _ {T : Type 0} (took : T → T → List ReplyWithData → Type 0) (joins : Joins took) (first then after : T) (within : i < length es) (item : e ≡ get_or es i e)
      (served : HasServed judge (take i es) old now (took first then)) (happened : HasHappened judge e now new reply) where
    o : Occurrence
    o = record { event = told_of e; starved = happened.starved }

    -- its reply was taken
    pub served_more : took then after (reply ∷ []) → HasServed judge (take (i + 1) es) old new (took first after)
    unfolding o
    served_more added = record {
      occurrences = served.occurrences ++ o ∷ [];
      are = are_more served.occurrences o within item refl served.are;
      state = state_more served.occurrences o served.state happened.state;
      replies = subst (took first after) (sym (replies_more served.occurrences o served.state happened.replied))
          (joins first then after (replies_to judge served.occurrences old) (reply ∷ []) served.replies added);
    }

    -- its reply was refused
    pub served_stopped : took then after [] → HasStopped judge es old new (took first after) (i + 1)
    unfolding o
    served_stopped none =
        let os = served.occurrences in
        let count : length os ≡ i = sym (length-map os (λ (x : Occurrence). x.event)) ∙ ap length served.are ∙ length-map (take i es) told_of ∙ length-take-le i es (omega (arith, within)) in
        let done : i + 1 - 1 ≡ i = omega arith in
        let those : take (i + 1 - 1) (os ++ o ∷ []) ≡ os = ap (λ (n : ℕ). take n (os ++ o ∷ [])) done ∙ take_at os (o ∷ []) i count in
        let replies = replies_to judge os old in
        record {
          some = omega arith;
          within = omega (arith, within);
          occurrences = os ++ o ∷ [];
          are = are_more os o within item refl served.are;
          state = state_more os o served.state happened.state;
          replies = subst (took first after) (append-nil replies ∙ ap (λ (xs : List Occurrence). replies_to judge xs old) (sym those))
              (joins first then after replies [] served.replies none);
        }

-- before the first event
pub served_none : (judge : Judge) {T : Type 0} (took : T → T → List ReplyWithData → Type 0) (first : T) (es : List Event) (s : State)
    → took first first [] → HasServed judge (take 0 es) s s (took first first)
served_none judge took first es s none = record { occurrences = []; are = refl; state = refl; replies = none }
