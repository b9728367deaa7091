-- What is done with a served target as events of its device.
use Rattle.std.proofs.Common.{◌≡◌, ℕ, List, [], ◌∷◌, ◌++◌, map, Option, None, Some, refl, ap, sym, ◌∙◌}
use Rattle.std.specs.Prelude.{slice_index_or}
use Rattle.std.proofs.lemmas.List.{map-append}
use Rattle.device_events.specs.Replies.{ReplyWithData}
use Rattle.device_events.specs.ToldEvents.{ToldEvent, told_of}
use Rattle.device_events.specs.declared.event.Event.{Event}
use Rattle.device_events.specs.declared.event.Event.TheVariants as event
use Rattle.device_meaning.specs.Events.{HasHappened, HasServed, Occurrence, replies_to, state_after}
use Rattle.device_meaning.specs.Judging.{interval_judge}
use Rattle.device_meaning.specs.State.{State}
use Rattle.device_meaning.proofs.Proved.{events_in_parts}
use Rattle.tcp_connection.specs.Executing.{Execution}
use Rattle.tcp_target.specs.QueueCommands.{given_to_device}
use Rattle.tcp_device.specs.Deeds.{Closed, Deed, Does, Opened, Received, Resumed, Sent, Served, Ticked, Turned, events_in, events_of, replies_in, replies_of, resumption_replies, resumptions, submission_replies, submissions, turn_replies, turns}
use Rattle.tcp_device.specs.Laws.{DeedsAreEvents}
use Rattle.tcp_device.specs.Served.{ResumesGiven, ServesGiven, TurnsGiven, next_run}
use Rattle.tcp_device.specs.State.{CommandOfRun, ServedState}

-- a device did these events, with these replies
abbrev Did : List Event → List ReplyWithData → State → State → Type 0
Did events replies old new = HasServed interval_judge events old new (λ given. given ≡ replies)

-- or none
left : (old new : ServedState) → new.device ≡ old.device → Did [] [] old.device new.device
left old new same = record { occurrences = []; are = refl; state = same; replies = refl }

one : (e : Event) (old new : State) (reply : ReplyWithData) → HasHappened interval_judge e old new reply → Did (e ∷ []) (reply ∷ []) old new
one e old new reply happened = record {
  occurrences = record { event = told_of e; starved = happened.starved } ∷ [];
  are = refl;
  state = happened.state;
  replies = ap (λ (r : ReplyWithData). r ∷ []) (sym happened.replied);
}

module _ (first later : List Event) (replies more : List ReplyWithData) (old between new : State) where
  both : Did first replies old between → Did later more between new → Did (first ++ later) (replies ++ more) old new
  both a b =
      let parts = events_in_parts interval_judge a.occurrences b.occurrences old in
      record {
        occurrences = a.occurrences ++ b.occurrences;
        are =
            map-append (λ (o : Occurrence). o.event) a.occurrences b.occurrences
            ∙ ap (λ (events : List ToldEvent). events ++ map (λ (o : Occurrence). o.event) b.occurrences) a.are
            ∙ ap (λ (events : List ToldEvent). map told_of first ++ events) b.are
            ∙ sym (map-append told_of first later);
        state = b.state ∙ ap (λ (s : State). state_after interval_judge b.occurrences s) a.state ∙ sym parts.state;
        replies =
            parts.replies
            ∙ ap (λ (s : State). replies_to interval_judge a.occurrences old ++ replies_to interval_judge b.occurrences s) (sym a.state)
            ∙ ap (λ (given : List ReplyWithData). given ++ replies_to interval_judge b.occurrences between) a.replies
            ∙ ap (λ (given : List ReplyWithData). replies ++ given) b.replies;
      }

served : (given : Option Execution) (number : ℕ) (old new : ServedState) (done : ServesGiven given number old new)
    → Did (submissions given number old new done) (submission_replies given number old new done) old.device new.device
served None number old new done = left old new (ap (λ (s : ServedState). s.device) done)
served (Some execution) number old new done =
    one (event.Submit number execution.entry done.taken.carried) old.device new.device done.reply done.taken.happened

turned : (run : Option ℕ) (old new : ServedState) (done : TurnsGiven run old new)
    → Did (turns run old new done) (turn_replies run old new done) old.device new.device
turned None old new done = left old new (ap (λ (s : ServedState). s.device) done)
turned (Some run) old new done = one (event.Turn run) old.device new.device done.reply done.happened

resumed : (command : Option CommandOfRun) (run : ℕ) (old new : ServedState) (done : ResumesGiven command run old new)
    → Did (resumptions command run old new done) (resumption_replies command run old new done) old.device new.device
resumed None run old new done = one (event.Turn run) old.device new.device done.reply done.happened
resumed (Some command) run old new done = left old new (ap (λ (s : ServedState). s.device) done)

did : (deed : Deed) (old new : ServedState) (done : Does deed old new) → Did (events_in deed old new done) (replies_in deed old new done) old.device new.device
did Opened old new done = left old new (ap (λ (s : ServedState). s.device) done)
did (Received number piece) old new done = left old new (ap (λ (s : ServedState). s.device) done)
did (Sent number count) old new done = left old new (ap (λ (s : ServedState). s.device) done)
did (Closed number) old new done = left old new (ap (λ (s : ServedState). s.device) done)
did (Ticked milliseconds) old new done = left old new (ap (λ (s : ServedState). s.device) done)
did (Served number) old new done = served (given_to_device number old.target.queues) number old new done
did Turned old new done = turned (next_run old) old new done
did (Resumed run) old new done = resumed (slice_index_or old.pending run None) run old new done

pub deeds_are_events : DeedsAreEvents
deeds_are_events [] old new done = left old new (ap (λ (s : ServedState). s.device) done)
deeds_are_events (deed ∷ deeds) old new done =
    both (events_of deeds old done.between done.first) (events_in deed done.between new done.last)
    (replies_of deeds old done.between done.first) (replies_in deed done.between new done.last) old.device done.between.device new.device
    (deeds_are_events deeds old done.between done.first) (did deed done.between new done.last)
