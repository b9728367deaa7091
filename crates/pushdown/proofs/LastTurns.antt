-- The last turn of a run completes it, and no other does.
use Rattle.std.proofs.Common.{◌≡◌, ◌≢◌, ℕ, List, [], ◌∷◌, Option, Some, None, refl, ap, subst, ◌∙◌, inl, inr}
use Rattle.std.specs.Prelude.{◌⊎◌}
use Rattle.device_meaning.specs.Judging.{IsSoundJudge, Judge}
use Rattle.device_meaning.specs.EventReplies.{Happening}
use Rattle.device_meaning.specs.Happenings.{turn_reply, turned}
use Rattle.device_meaning.specs.Outcome.{EndsWithLast, Ending, Succeeds, Turn}
use Rattle.device_meaning.specs.State.{Place, State, place_at}
use Rattle.device_meaning.proofs.Proved.{ends_with_success, states_are_sound, success_other, turned_is}
use Rattle.pushdown.specs.Laws.{CompletesRun, LastTurnCompletes, LeavesLater}
use Rattle.pushdown.proofs.OthersEvents.{turn_takes_first}

module _ (s : State) (run : ℕ) (place : Place) (turn : Turn) where
  replies : (later : List Turn) (ending : Option Ending) → place_at s run ≡ Some place → place.turns ≡ turn ∷ later → turn.ending ≡ ending
      → (turned s run).reply ≡ turn_reply run place ending
  replies later ending here first is = ap (λ (h : Happening). h.reply) (turned_is s run place turn later here first) ∙ ap (turn_reply run place) is

  last_completes : (ending : Option Ending) → place_at s run ≡ Some place → place.turns ≡ turn ∷ [] → EndsWithLast (turn ∷ []) → turn.ending ≡ ending
      → CompletesRun run place (turned s run)
  last_completes None here first ends is = absurd (subst Succeeds is ends)
  last_completes (Some ending) here first ends is = record {
    reply = record {
      status = ending.status;
      code = (success_other ending.status (ends_with_success turn [] ending ends is)).code;
      dw0 = ending.dw0;
      dw1 = ending.dw1;
      output = [];
      is = replies [] (Some ending) here first is;
      so = ends_with_success turn [] ending ends is;
    };
    place_freed = (turn_takes_first s run place turn [] here first).place_freed ending is;
  }

  by_later : (later : List Turn) → place_at s run ≡ Some place → place.turns ≡ turn ∷ later → EndsWithLast (turn ∷ later)
      → ((later ≡ []) × CompletesRun run place (turned s run)) ⊎ ((later ≢ []) × LeavesLater run place later (turned s run))
  by_later [] here first ends = inl (refl, last_completes turn.ending here first ends refl)
  by_later (next ∷ later) here first ends = inr (
    λ none. cc,
    record {
      reply = replies (next ∷ later) None here first ends.0;
      later_left = (turn_takes_first s run place turn (next ∷ later) here first).later_left ends.0;
    },
  )

pub last_turn_completes : (judge : Judge) → IsSoundJudge judge → LastTurnCompletes judge
last_turn_completes judge sound s reached run place turn later here first =
    by_later s run place turn later here first (subst EndsWithLast first ((states_are_sound judge sound s reached).ends run place here))
