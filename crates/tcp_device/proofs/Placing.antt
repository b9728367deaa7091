-- A device has as many places for runs as its target has for their commands.
use Rattle.std.proofs.Common.{◌≡◌, ℕ, Bool, List, length, get_or, Option, None, Some, refl, ap, sym, ◌∙◌, inl, inr}
use Rattle.std.proofs.lemmas.List.{length-set}
use Rattle.device_events.specs.ToldEvents as told
use Rattle.device_meaning.specs.EventReplies.{Happening, Submission, submission_of}
use Rattle.device_meaning.specs.Happenings.{happens, turned}
use Rattle.device_meaning.specs.Judging.{interval_judge}
use Rattle.device_meaning.specs.State.{State}
use Rattle.device_meaning.proofs.Proved.{HoldsOfEach, of_entry, of_turn}
use Rattle.tcp_connection.specs.Executing.{Execution}
use Rattle.tcp_target.specs.QueueCommands.{given_to_device}
use Rattle.tcp_device.specs.Answering.{HasPlaces}
use Rattle.tcp_device.specs.Deeds.{Closed, Deed, Does, Opened, Received, Resumed, Sent, Served, Ticked, Turned}
use Rattle.tcp_device.specs.Served.{ResumesGiven, ServesGiven, TurnsGiven, next_run}
use Rattle.tcp_device.specs.State.{CommandOfRun, ServedState}
use Rattle.tcp_device.proofs.Turning.{freed_long, kept_long}

-- no event makes or takes a place for a run
abbrev AsMany : State → Happening → Type 0
AsMany s h = length h.state.places ≡ length s.places

module _ (sub : Submission) (s : State) where
  each : HoldsOfEach interval_judge (AsMany s) sub s
  each = record {
    unchanged = λ status output other. refl;
    standard = λ c asked. refl;
    load = λ load h asked is.
        elim is.state [
          | inl same ↦ ap (λ (t : State). length t.places) same
          | inr takes ↦ ap (λ (t : State). length t.places) takes.taken
        ];
    start = λ command run asked passes at. length-set s.places run _;
  }

entry_leaves : (starved : Bool) (queue : ℕ) (entry input : List ℕ) (s : State)
    → AsMany s (happens interval_judge s starved (told.Submitted queue entry input))
entry_leaves starved queue entry input s =
    let sub = submission_of queue entry input in of_entry interval_judge (AsMany s) sub s (each sub s) starved

turn_leaves : (s : State) (run : ℕ) → AsMany s (turned s run)
turn_leaves s run = of_turn (AsMany s) s run refl (λ place turn later at is. length-set s.places run _)

module _ (old new : ServedState) where
  as_many : length new.device.places ≡ length old.device.places → length new.pending ≡ length old.pending → HasPlaces old → HasPlaces new
  as_many device pending has = device ∙ has ∙ sym pending

  left : (s : ServedState) → new ≡ s → s.device ≡ old.device → s.pending ≡ old.pending → HasPlaces old → HasPlaces new
  left s is device pending =
      as_many (ap (λ (x : ServedState). length x.device.places) is ∙ ap (λ (d : State). length d.places) device)
      (ap (λ (x : ServedState). length x.pending) is ∙ ap (λ (all : List (Option CommandOfRun)). length all) pending)

  serves : (given : Option Execution) (number : ℕ) → ServesGiven given number old new → HasPlaces old → HasPlaces new
  serves None number done = left _ done refl refl
  serves (Some execution) number done =
      let happened = done.taken.happened in
      as_many (ap (λ (d : State). length d.places) happened.state ∙ entry_leaves happened.starved number execution.entry done.taken.carried.items old.device)
      (ap (λ (x : ServedState). length x.pending) done.rest ∙ kept_long done.reply.reply number execution.entry old.pending)

  turns : (run : Option ℕ) → TurnsGiven run old new → HasPlaces old → HasPlaces new
  turns None done = left _ done refl refl
  turns (Some run) done =
      as_many (ap (λ (d : State). length d.places) done.happened.state ∙ turn_leaves old.device run)
      (ap (λ (x : ServedState). length x.pending) done.rest ∙ freed_long done.reply.reply run old.pending)

  resumes : (command : Option CommandOfRun) (run : ℕ) → ResumesGiven command run old new → HasPlaces old → HasPlaces new
  resumes None run done =
      as_many (ap (λ (d : State). length d.places) done.happened.state ∙ turn_leaves old.device run) (ap (λ (x : ServedState). length x.pending) done.rest)
  resumes (Some command) run done = left _ done refl refl

pub places_stay : (deed : Deed) (old new : ServedState) → Does deed old new → HasPlaces old → HasPlaces new
places_stay Opened old new done = left old new _ done refl refl
places_stay (Received number piece) old new done = left old new _ done refl refl
places_stay (Sent number count) old new done = left old new _ done refl refl
places_stay (Closed number) old new done = left old new _ done refl refl
places_stay (Ticked milliseconds) old new done = left old new _ done refl refl
places_stay (Served number) old new done = serves old new (given_to_device number old.target.queues) number done
places_stay Turned old new done = turns old new (next_run old) done
places_stay (Resumed run) old new done = resumes old new (get_or old.pending run None) run done
