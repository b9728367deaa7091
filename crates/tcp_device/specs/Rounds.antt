-- In each round a connection on which bytes wait goes on: some of them are taken, or a command of it goes.
use Rattle.std.specs.Prelude.{ℕ, ◌≡◌, ◌≤◌, ◌+◌, ◌==◌, ◌&&◌, ◌||◌, Bool, true, false, List, [], ◌∷◌, length, if◌then◌else◌}
use Rattle.std.specs.List.{list_any}
use Rattle.device_meaning.specs.State.{State}
use Rattle.tcp_admin.specs.declared.subsystem.NamespaceFormat.{NamespaceFormat}
use Rattle.tcp_admin.specs.declared.subsystem.Subsystem.{Subsystem}
use Rattle.tcp_connection.specs.Queue.{is_ended}
use Rattle.tcp_target.specs.Ends.{is_cut_off}
use Rattle.tcp_target.specs.Places.{goes_on}
use Rattle.tcp_target.specs.Events.{count_of}
use Rattle.tcp_connection.specs.Executing.{Execution}
use Rattle.tcp_target.specs.QueueCommands.{given_to_device}
use Rattle.tcp_device.specs.Answering.{HasPlaces, IsDone, IsMet, IsNext, closes, serves}
use Rattle.tcp_device.specs.Deeds.{AreDone, Deed, Received, Throughout}
use Rattle.tcp_device.specs.Order.{place_of, went_on}
use Rattle.tcp_device.specs.State.{ServedState, begun_on}

-- ---- how far a connection comes

-- the bytes that a deed takes of those that come on a connection
abbrev pub taken_by : ℕ → Deed → ServedState → ℕ
taken_by number (Received other piece) s = if other == number then count_of other piece s.target else 0
taken_by number _ s = 0

abbrev pub taken_on : (number : ℕ) (deeds : List Deed) (old new : ServedState) → AreDone deeds old new → ℕ
taken_on number [] old new done = 0
taken_on number (deed ∷ deeds) old new done = taken_on number deeds old done.between done.first + taken_by number deed done.between

-- those bytes, and the commands that go
abbrev pub progress_on : (number : ℕ) (deeds : List Deed) (old new : ServedState) → AreDone deeds old new → ℕ
progress_on number deeds old new done = taken_on number deeds old new done + length (went_on number deeds old new done)

-- ---- rounds

-- a deed brings bytes of a connection
abbrev pub brings : ℕ → Deed → Bool
brings number (Received other []) = false
brings number (Received other (first ∷ piece)) = other == number
brings number _ = false

-- deeds, the last first, by which bytes of a connection come, and after them it is served
abbrev pub is_round : ℕ → List Deed → Bool
is_round number [] = false
is_round number (deed ∷ deeds) = (serves number deed && list_any (brings number) deeds) || is_round number deeds

-- nothing but its own commands hinders a connection: it is open, its host reads, it hasn't ended, and isn't cut off
pub record IsFit (number : ℕ) (s : ServedState) : Type 0 where
  pub goes : goes_on (place_of number s) ≡ true
  pub on : is_ended (place_of number s).connection.phase ≡ false
  pub there : is_cut_off number s.target.queues ≡ false

-- it is fit before each of some deeds
abbrev pub StaysFit : (number : ℕ) (deeds : List Deed) (old new : ServedState) → AreDone deeds old new → Type 0
StaysFit number deeds old new done = Throughout (λ earlier deed s. IsFit number s) deeds old new done

-- a round is done after others, of which this holds
pub record GoesRound (number : ℕ) (round : List Deed) (before : ServedState → Type 0) (new : ServedState) : Type 0 where
  pub between : ServedState
  pub first : before between
  pub done : AreDone round between new
  pub is : is_round number round ≡ true
  pub closed : list_any (closes number) round ≡ false
  pub fit : StaysFit number round between new done

abbrev pub AreRounds : ℕ → List (List Deed) → ServedState → ServedState → Type 0
AreRounds number [] old new = new ≡ old
AreRounds number (round ∷ rounds) old new = GoesRound number round (AreRounds number rounds old) new

abbrev pub progress_in : (number : ℕ) (rounds : List (List Deed)) (old new : ServedState) → AreRounds number rounds old new → ℕ
progress_in number [] old new done = 0
progress_in number (round ∷ rounds) old new done =
    progress_in number rounds old done.between done.first + progress_on number round done.between new done.done

-- in so many rounds at least as many bytes are taken and commands go, together, whatever is done for others
abbrev pub RoundsGoOn : Type 0
RoundsGoOn =
    (device : State) (subsystem : Subsystem) (format : NamespaceFormat) (before : List Deed) (old new : ServedState)
    → AreDone before (begun_on device subsystem format) old
    → (number : ℕ) (rounds : List (List Deed)) (done : AreRounds number rounds old new)
    → length rounds ≤ progress_in number rounds old new done

-- ---- answers

-- a deed doesn't close a connection, and serves it only where it is fit
pub record ServesFit (number : ℕ) (deed : Deed) (s : ServedState) : Type 0 where
  pub not_closed : closes number deed ≡ false
  pub fit : serves number deed ≡ true → IsFit number s

-- so it is with each deed up to the first that serves the connection
abbrev pub IsServedFit : (number : ℕ) (deeds : List Deed) (old new : ServedState) → AreDone deeds old new → Type 0
IsServedFit number deeds old new done =
    Throughout (λ earlier deed s. list_any (serves number) earlier ≡ false → ServesFit number deed s) deeds old new done

-- the first deed that serves a connection meets this command, and answers it
pub record IsAnsweredIn (number : ℕ) (execution : Execution) (deeds : List Deed) (old new : ServedState) : Type 0 where
  pub met : IsMet number execution deeds old new
  pub answer : IsDone (given_to_device number met.before.target.queues) number execution met.before met.after met.served

-- so it is with the command that is next on a connection, whatever is done for others. One that is ready is next (`BytesAreTaken`)
abbrev pub NextIsAnswered : Type 0
NextIsAnswered =
    (number : ℕ) (execution : Execution) (deeds : List Deed) (old new : ServedState) → HasPlaces old
    → (done : AreDone deeds old new) → IsServedFit number deeds old new done
    → list_any (serves number) deeds ≡ true → IsNext execution (place_of number old)
    → IsAnsweredIn number execution deeds old new
