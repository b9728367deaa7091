-- What a loop does with the target that it serves.
use Rattle.std.specs.Prelude.{ℕ, ◌≡◌, Bool, true, false, ◌==◌, List, [], ◌∷◌, ◌++◌, if◌then◌else◌, take}

-- a connection begins, and gets this number; bytes come on one, of which so many are taken, or bytes were sent on it; one is closed; so
-- many milliseconds go by; the command that is ready on one is done; a run is given a turn; or one is whose command came over no connection
pub data Deed : Type 0 where
  Opened : (number : ℕ) → Deed
  Received : (number : ℕ) (piece : List ℕ) (count : ℕ) → Deed
  Sent : (number count : ℕ) → Deed
  Closed : (number : ℕ) → Deed
  Ticked : (milliseconds : ℕ) → Deed
  Served : (number : ℕ) → Deed
  Turned : Deed
  Resumed : (run : ℕ) → Deed

-- may it be an event of the device?
abbrev pub is_event : Deed → Bool
is_event (Served number) = true
is_event Turned = true
is_event (Resumed run) = true
is_event _ = false

-- ---- what was received

-- the bytes that were received on the connection that has a number, or had it last
abbrev pub received_on : ℕ → List Deed → List ℕ
received_on number [] = []
received_on number (Opened other ∷ deeds) = if number == other then [] else received_on number deeds
received_on number (Received other piece count ∷ deeds) = received_on number deeds ++ (if number == other then take count piece else [])
received_on number (Sent other count ∷ deeds) = received_on number deeds
received_on number (Closed other ∷ deeds) = received_on number deeds
received_on number (Ticked milliseconds ∷ deeds) = received_on number deeds
received_on number (Served other ∷ deeds) = received_on number deeds
received_on number (Turned ∷ deeds) = received_on number deeds
received_on number (Resumed run ∷ deeds) = received_on number deeds

-- ---- when connections began and ended

abbrev pub life_of : ℕ → List Deed → List Bool
life_of number [] = []
life_of number (Opened other ∷ deeds) = if number == other then true ∷ life_of number deeds else life_of number deeds
life_of number (Closed other ∷ deeds) = if number == other then false ∷ life_of number deeds else life_of number deeds
life_of number (Received other piece count ∷ deeds) = life_of number deeds
life_of number (Sent other count ∷ deeds) = life_of number deeds
life_of number (Ticked milliseconds ∷ deeds) = life_of number deeds
life_of number (Served other ∷ deeds) = life_of number deeds
life_of number (Turned ∷ deeds) = life_of number deeds
life_of number (Resumed run ∷ deeds) = life_of number deeds

-- what is said of a target with its device, in states: what a deed makes of it; what is to be sent on a connection; for which state a file
-- stands; and what an earlier program may have left of a file that is read so
pub record Meaning (State : Type 0) : Type 1 where
  pub does : Deed → State → State → Type 0
  pub to_send : ℕ → State → List ℕ
  pub stands_for : List ℕ → State → Type 0
  pub may_be_left : List ℕ → List ℕ → Type 0

module _ {State : Type 0} (m : Meaning State) where
  -- ---- deeds one after another, of which the last stands first

  pub record Follows (before : State → Type 0) (deed : Deed) (new : State) : Type 0 where
    pub between : State
    pub first : before between
    pub last : m.does deed between new

  abbrev pub AreDone : List Deed → State → State → Type 0
  AreDone [] old new = new ≡ old
  AreDone (deed ∷ deeds) old new = Follows (AreDone deeds old) deed new

  -- ---- what was sent

  -- the bytes that a deed leaves as sent on the connection that has a number, or had it last, where these were sent before
  abbrev pub sent_by : ℕ → Deed → State → List ℕ → List ℕ
  sent_by number (Opened other) s before = if number == other then [] else before
  sent_by number (Sent other count) s before = before ++ (if number == other then take count (m.to_send number s) else [])
  sent_by number (Received other piece count) s before = before
  sent_by number (Closed other) s before = before
  sent_by number (Ticked milliseconds) s before = before
  sent_by number (Served other) s before = before
  sent_by number Turned s before = before
  sent_by number (Resumed run) s before = before

  -- each time the first of those that were to be sent
  abbrev pub sent_on : (number : ℕ) (deeds : List Deed) (old new : State) → AreDone deeds old new → List ℕ
  sent_on number [] old new done = []
  sent_on number (deed ∷ deeds) old new done = sent_by number deed done.between (sent_on number deeds old done.between done.first)
