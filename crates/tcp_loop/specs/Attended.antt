-- What is done in each round: a run is given a turn, and each connection is attended to.
use Rattle.std.specs.Prelude.{ℕ, ◌≡◌, ◌<◌, ◌||◌, ◌⊎◌, Bool, true, false, List, [], ◌∷◌, ◌++◌}
use Rattle.tcp_loop.specs.Trace.{Trace}
use Rattle.tcp_loop.specs.Sockets.{came_on}
use Rattle.tcp_loop.specs.Deeds.{Deed, Received, Served, Turned, received_on}
use Rattle.tcp_loop.specs.declared.operation.Operation.{Operation}
use Rattle.tcp_loop.specs.declared.operation.Operation.TheVariants.{Poll}

-- ---- one round, by its deeds, of which the last stands first, and those before it

-- is a run given a turn, where one may have it?
abbrev pub is_turn : Deed → Bool
is_turn Turned = true
is_turn _ = false

abbrev pub has_turn : List Deed → Bool
has_turn [] = false
has_turn (deed ∷ round) = is_turn deed || has_turn round

-- a deed after these hands on all bytes that came on a connection and aren't received yet
abbrev pub HandsOn : ℕ → List ℕ → Deed → List Deed → Type 0
HandsOn place came (Received other piece count) deeds = (place ≡ other) × (came ≡ received_on place deeds ++ piece)
HandsOn place came _ deeds = ⊥

abbrev pub IsHandedOn : (place : ℕ) (came : List ℕ) (round before : List Deed) → Type 0
IsHandedOn place came [] before = ⊥
IsHandedOn place came (deed ∷ round) before = HandsOn place came deed (round ++ before) ⊎ IsHandedOn place came round before

-- a connection is attended to: its bytes are handed on, and after that the command is done that is ready on it
abbrev pub IsAttendedTo : (place : ℕ) (came : List ℕ) (round before : List Deed) → Type 0
IsAttendedTo place came [] before = ⊥
IsAttendedTo place came (deed ∷ round) before =
    ((deed ≡ Served place) × IsHandedOn place came round before) ⊎ IsAttendedTo place came round before

-- all that is owed in a round whatever hosts do: so no run and no command waits for another's
pub record IsRound (trace : Trace) (round before : List Deed) : Type 0 where
  pub turn : has_turn round ≡ true
  pub connections : (place : ℕ) → place < 40 → IsAttendedTo place (came_on place trace) round before

-- ---- rounds one after another, of which the last stands first

abbrev pub deeds_in : List (List Deed) → List Deed
deeds_in [] = []
deeds_in (round ∷ rounds) = round ++ deeds_in rounds

-- a wait ends the last of these rounds,
abbrev pub IsLastRound : Trace → List (List Deed) → Type 0
IsLastRound trace [] = ⊥
IsLastRound trace (round ∷ rounds) = IsRound trace round (deeds_in rounds)

abbrev pub EndsRound : Operation → Trace → List (List Deed) → Type 0
EndsRound (Poll watched milliseconds) trace rounds = IsLastRound trace rounds
EndsRound _ trace rounds = Unit {0}

-- and those before it were before the wait
abbrev pub all_but_last : List (List Deed) → List (List Deed)
all_but_last [] = []
all_but_last (round ∷ rounds) = rounds

abbrev pub ended_before : Operation → List (List Deed) → List (List Deed)
ended_before (Poll watched milliseconds) rounds = all_but_last rounds
ended_before _ rounds = rounds

-- each wait of a trace ended one of these rounds
abbrev pub AreRounds : Trace → List (List Deed) → Type 0
AreRounds [] rounds = rounds ≡ []
AreRounds (m ∷ trace) rounds = EndsRound m.asked trace rounds × AreRounds trace (ended_before m.asked rounds)

-- ---- the law

-- deeds are those of the rounds that waits ended, and those since the last wait
pub record IsAttended (trace : Trace) (deeds : List Deed) : Type 0 where
  pub since : List Deed
  pub rounds : List (List Deed)
  pub all : deeds ≡ since ++ deeds_in rounds
  pub each : AreRounds trace rounds
