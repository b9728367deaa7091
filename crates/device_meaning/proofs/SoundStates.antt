-- What holds of each state that events leave.
use Rattle.std.proofs.Common.{sym, subst}
use Rattle.device_meaning.specs.Judging.{IsSoundJudge, Judge}
use Rattle.device_meaning.specs.Laws.{StatesAreSound}
use Rattle.device_meaning.specs.Reached.{IsReached}
use Rattle.device_meaning.specs.State.{State}
use Rattle.device_meaning.proofs.Beginnings.{begins_fine}
use Rattle.device_meaning.proofs.States.{IsFine, PlaceIsFine, appends, events_fine, place_fine, programs}

-- each state that events leave is such a state
pub reached_fine : (judge : Judge) (sound : IsSoundJudge judge) (s : State) (reached : IsReached judge s)
    → IsFine judge sound reached.first.namespace.block s
reached_fine judge sound s reached =
    let first = reached.first in
    subst (IsFine judge sound first.namespace.block) (sym reached.leaves)
    (events_fine judge sound first.namespace.block reached.events first (begins_fine judge sound first reached.begins) reached.bytes)

pub states_are_sound : (judge : Judge) → IsSoundJudge judge → StatesAreSound judge
states_are_sound judge sound s reached =
    let h = reached_fine judge sound s reached in
    let block = reached.first.namespace.block in
    record {
      namespace = h.is;
      programs = programs judge sound block s h;
      rooms = h.rooms;
      appends = appends judge sound block s h;
      ends = λ run place here. (subst (PlaceIsFine judge sound block) here (place_fine judge sound block s run h)).ends;
    }
