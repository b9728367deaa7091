-- Runs that were admitted before their device was restored of what was kept of it.
use Rattle.std.specs.Prelude.{ℕ, Bool, ◌≡◌, ◌<◌, List, drop, length, Option, Some}
use Rattle.nvme_entry.specs.declared.command.RunCommand.{RunCommand}
use Rattle.device_meaning.specs.EventReplies.{submission_of}
use Rattle.device_meaning.specs.Events.{Occurrence}
use Rattle.device_meaning.specs.Happenings.{admitted_place}
use Rattle.device_meaning.specs.Judging.{interval_judge}
use Rattle.device_meaning.specs.Outcome.{ending_of}
use Rattle.device_meaning.specs.Reached.{IsReached}
use Rattle.device_meaning.specs.State.{Place, State, place_at}
use Rattle.device_meaning.specs.View.{Active}
use Rattle.kept_device.specs.Kept.{SavedProgram}
use Rattle.pushdown.specs.Pushdown.{IsAdmitted, now, own_turns}
use Rattle.runner.specs.Restored.{IsRestored}

-- A run goes on in a device that was restored: of this place, the turns are left that were left before, and they end it as all of its
-- turns do, so with the completion that was fixed at admission. All else is as it was before, too: whatever events come are answered so.
pub record GoesOn (before after : State) (run : ℕ) (place : Place) (done : ℕ) : Type 0 where
  pub left : place_at after run ≡ Some (record place { turns = drop done place.turns })
  pub ending : ending_of (drop done place.turns) ≡ ending_of place.turns
  pub same : after ≡ before

-- In each state that events leave: a Run is admitted, events follow, of which fewer are its own turns than it has, and then the device
-- is restored of what is kept of its programs and of how far its runs have come. The run goes on.
abbrev pub RunsGoOnAfterRestores : Type 0
RunsGoOnAfterRestores =
    (s : State) → IsReached interval_judge s
    → (queue : ℕ) (entry input : List ℕ) (starved : Bool) (command : RunCommand) (run : ℕ) (events : List Occurrence)
    → IsAdmitted s (submission_of queue entry input) command run
    → let place = admitted_place (submission_of queue entry input) s command in
    let before = now interval_judge s queue entry input starved command run events in
    own_turns run events < length place.turns
    → (programs : List (Option SavedProgram)) (runs : List (Option Active)) (after : State)
    → IsRestored before.namespace programs runs before → IsRestored before.namespace programs runs after
    → GoesOn before after run place (own_turns run events)
