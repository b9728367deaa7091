-- What frames did, in the words of the events that they tell.
use Rattle.std.proofs.Common.{◌≡◌, ℕ, Bool, false, List, [], ◌∷◌, map, Option, Some, None, refl, sym, ap, ◌∙◌}
use Rattle.std.specs.List.{AllByRecursion, cons_option, filter_map}
use Rattle.durable_machine.specs.Applied.{HasApplied}
use Rattle.durable_machine.specs.Runs.{state_again}
use Rattle.device_events.specs.Replies.{ReplyWithData}
use Rattle.device_events.specs.ToldEvents.{ToldEvent, told_of}
use Rattle.device_events.specs.ToldEvents as told
use Rattle.device_events.specs.declared.event.Event.{Event}
use Rattle.device_meaning.specs.Events.{HasHappened, Occurrence, state_after}
use Rattle.runner.specs.Taken.{HasTaken}
use Rattle.device_meaning.specs.Happenings.{happens}
use Rattle.device_meaning.specs.Judging.{interval_judge}
use Rattle.device_meaning.specs.State.{State}
use Rattle.durable_device.specs.Changing.{HasIdentifier, is_want_of_memory, may_change}
use Rattle.durable_device.specs.FrameEvents.{frame_event}
use Rattle.durable_device.specs.Laws.{AreTold}
use Rattle.durable_device.specs.Machine.{HasDone, next_state, state_by}
use Rattle.durable_device.proofs.Again.{comes_again}

-- ---- one event

-- an event of the code is done
pub happened_done : (e : Event) (old new : State) (reply : ReplyWithData) → HasHappened interval_judge e old new reply → HasDone (told_of e) old new reply
happened_done e old new reply happened = record { starved = happened.starved; state = happened.state; replied = happened.replied }

-- a submission with its data where that lies
pub taken_done : (queue : ℕ) (entry input : List ℕ) (old new : State) (reply : ReplyWithData) → HasTaken queue entry input old new reply
    → HasDone (told.Submitted queue entry input) old new reply
taken_done queue entry input old new reply taken =
    let happened = taken.happened in
    record {
      starved = happened.starved;
      state = happened.state ∙ ap (λ (bytes : List ℕ). (happens interval_judge old happened.starved (told.Submitted queue entry bytes)).state) taken.bytes;
      replied = happened.replied ∙ ap (λ (bytes : List ℕ). (happens interval_judge old happened.starved (told.Submitted queue entry bytes)).reply) taken.bytes;
    }

-- ---- one frame

-- what a frame came to that tells an event
pub event_done : (s new : State) (frame : List ℕ) (e : ToldEvent) (r : ReplyWithData) (changes starved : Bool) → frame_event frame ≡ Some e
    → HasDone e s new r → HasIdentifier e → changes ≡ may_change e r.reply → starved ≡ is_want_of_memory r.reply
    → HasApplied next_state frame s (record { changes = changes; starved = starved }) new
event_done s new frame e r changes starved tells done fits may want =
    let again = comes_again s done.starved e fits in
    let test : changes ≡ may_change e (happens interval_judge s done.starved e).reply.reply =
    may ∙ ap (λ (q : ReplyWithData). may_change e q.reply) done.replied in
    record {
      refused = done.starved;
      state = done.state ∙ ap (state_by s done.starved) (sym tells);
      again = λ does. done.state ∙ again.again (sym test ∙ does) ∙ ap (state_by s false) (sym tells);
      idle = λ idle. done.state ∙ again.idle (sym test ∙ idle);
      fed = λ fed. done.state ∙ again.fed (sym (want ∙ ap (λ (q : ReplyWithData). is_want_of_memory q.reply) done.replied) ∙ fed) ∙ ap (state_by s false) (sym tells);
    }

-- ---- frames of a file, where memory is given

-- the occurrence of the event that a frame tells
abbrev pub given_occurrence : Option ToldEvent → Option Occurrence
given_occurrence None = None
given_occurrence (Some e) = Some (record { event = e; starved = false })

-- those of a file's frames
abbrev pub file_occurrences : List (List ℕ) → List Occurrence
file_occurrences = filter_map (λ frame. given_occurrence (frame_event frame))

next_given : (e : Option ToldEvent) (os : List Occurrence) → AllByRecursion (λ (o : Occurrence). o.starved ≡ false) os
    → AllByRecursion (λ (o : Occurrence). o.starved ≡ false) (cons_option (given_occurrence e) os)
next_given None os all = all
next_given (Some e) os all = (refl, all)

pub all_given : (frames : List (List ℕ)) → AllByRecursion (λ (o : Occurrence). o.starved ≡ false) (file_occurrences frames)
all_given [] = tt
all_given (frame ∷ frames) = next_given (frame_event frame) (file_occurrences frames) (all_given frames)

next_told : (e : Option ToldEvent) (os : List Occurrence) (es : List ToldEvent) → map (λ (o : Occurrence). o.event) os ≡ es
    → map (λ (o : Occurrence). o.event) (cons_option (given_occurrence e) os) ≡ cons_option e es
next_told None os es same = same
next_told (Some e) os es same = ap (λ (l : List ToldEvent). e ∷ l) same

pub file_told : (frames : List (List ℕ)) → AreTold frames (file_occurrences frames)
file_told [] = refl
file_told (frame ∷ frames) = next_told (frame_event frame) (file_occurrences frames) _ (file_told frames)

next_state_told : (e : Option ToldEvent) (os : List Occurrence) (s : State)
    → state_after interval_judge (cons_option (given_occurrence e) os) s ≡ state_after interval_judge os (state_by s false e)
next_state_told None os s = refl
next_state_told (Some e) os s = refl

pub file_state : (frames : List (List ℕ)) (s : State) → state_again next_state frames s ≡ state_after interval_judge (file_occurrences frames) s
file_state [] s = refl
file_state (frame ∷ frames) s = file_state frames (next_state s false frame) ∙ sym (next_state_told (frame_event frame) (file_occurrences frames) s)
