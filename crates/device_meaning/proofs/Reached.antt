-- The states that events leave: where they begin, and how events lead on from them.
use Rattle.std.proofs.Common.{ℕ, List, [], ◌∷◌, ◌++◌, refl, ap, sym, subst, ◌∙◌}
use Rattle.device_meaning.specs.Judging.{Judge}
use Rattle.device_meaning.specs.Events.{AreEvents, state_after}
use Rattle.device_meaning.specs.JoinedEvents.{turn_events}
use Rattle.device_meaning.specs.Reached.{BeginningIsReached, EventsKeepReached, IsReached, NewIsReached, TurnsKeepReached}
use Rattle.device_meaning.specs.State.{new_state}
use Rattle.device_meaning.proofs.Beginnings.{new_may_begin}
use Rattle.device_meaning.proofs.JoinedEvents.{drained_by_turns, events_in_parts, events_join}

turns_are : (runs : List ℕ) → AreEvents (turn_events runs)
turns_are [] = tt
turns_are (run ∷ runs) = (tt, turns_are runs)

module _ (judge : Judge) where
  pub beginning_is_reached : BeginningIsReached judge
  beginning_is_reached s begins = record { first = s; events = []; begins = begins; bytes = tt; leaves = refl }

  pub new_is_reached : NewIsReached judge
  new_is_reached ns is = beginning_is_reached (new_state ns) (new_may_begin judge ns is)

  pub events_keep_reached : EventsKeepReached judge
  events_keep_reached s events reached are = record {
    first = reached.first;
    events = reached.events ++ events;
    begins = reached.begins;
    bytes = events_join reached.events events reached.bytes are;
    leaves =
        ap (state_after judge events) reached.leaves
        ∙ sym ((events_in_parts judge reached.events events reached.first).state);
  }

  pub turns_keep_reached : TurnsKeepReached judge
  turns_keep_reached s runs reached =
      subst (IsReached judge) (sym ((drained_by_turns judge runs s).state))
      (events_keep_reached s (turn_events runs) reached (turns_are runs))
