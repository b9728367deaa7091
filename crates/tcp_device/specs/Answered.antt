-- Within how many rounds hosts are answered, whatever other hosts do.
use Rattle.std.specs.Prelude.{ℕ, ◌≡◌, ◌≤◌, ◌<◌, ◌+◌, ◌*◌, false, List, ◌++◌, length}
use Rattle.std.specs.List.{AllByRecursion, list_any}
use Rattle.tcp_connection.specs.Executing.{Execution}
use Rattle.tcp_device.specs.Answering.{HasPlaces, IsMet, IsNext, closes}
use Rattle.tcp_device.specs.Deeds.{AreDone}
use Rattle.tcp_device.specs.Order.{place_of}
use Rattle.tcp_device.specs.Rounds.{IsAnsweredIn, IsServedFit}
use Rattle.tcp_device.specs.State.{ServedState}
use Rattle.tcp_device.specs.Turning.{turns_of}
use Rattle.tcp_device.specs.Waiting.{IsPending, IsReached}
use Rattle.tcp_loop.specs.Attended.{deeds_in}
use Rattle.tcp_loop.specs.Deeds.{Deed}
use Rattle.tcp_device.specs.LoopMeaning.{deeds_of}

-- the command that is next on a connection as a round begins is met in that round, unless the connection is closed
abbrev pub MeetsNext : List Deed → Type 0
MeetsNext round =
    (number : ℕ) (execution : Execution) (old new : ServedState) → number < 40 → AreDone (deeds_of round) old new
    → list_any (closes number) (deeds_of round) ≡ false → IsNext execution (place_of number old)
    → IsMet number execution (deeds_of round) old new

-- and is answered by the deed that meets it, unless the connection is closed or cut off by then, or more than 256 KiB are unread there
abbrev pub AnswersNext : List Deed → Type 0
AnswersNext round =
    (number : ℕ) (execution : Execution) (old new : ServedState) → number < 40 → HasPlaces old
    → (done : AreDone (deeds_of round) old new) → IsServedFit number (deeds_of round) old new done
    → IsNext execution (place_of number old) → IsAnsweredIn number execution (deeds_of round) old new

-- a run that a host waits for has a turn in any eight rounds, whoever reads
abbrev pub GivesTurns : List (List Deed) → Type 0
GivesTurns rounds =
    (run : ℕ) (old new : ServedState) → run < 8 → (done : AreDone (deeds_of (deeds_in rounds)) old new) → IsReached old
    → IsPending run (deeds_of (deeds_in rounds)) old new done
    → length rounds ≤ 8 * turns_of run (deeds_of (deeds_in rounds)) old new done + 7

-- so it is in each of some rounds, and of any that come one after another
pub record RoundsAnswer (rounds : List (List Deed)) : Type 0 where
  pub commands : AllByRecursion MeetsNext rounds
  pub answers : AllByRecursion AnswersNext rounds
  pub runs : (later some earlier : List (List Deed)) → rounds ≡ later ++ (some ++ earlier) → GivesTurns some
