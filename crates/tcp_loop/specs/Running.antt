-- What holds of a loop holds on, whatever the world answers to its operations.
use Rattle.std.specs.Prelude.{ℕ, ◌≡◌, ◌<◌, true, false, List, [], ◌∷◌, Option}
use Rattle.stored_file.specs.Calls.{Call}
use Rattle.tcp_loop.specs.Trace.{Trace}
use Rattle.tcp_loop.specs.Deeds.{Meaning}
use Rattle.tcp_loop.specs.Keeping.{KeptState}
use Rattle.tcp_loop.specs.Kept.{Phase}
use Rattle.tcp_loop.specs.Holding.{Holds}
use Rattle.tcp_loop.specs.Orderly.{IsOrderly}
use Rattle.tcp_loop.specs.Rounds.{OwesNothing, is_over}
use Rattle.tcp_loop.specs.Sockets.{is_open}
use Rattle.tcp_loop.specs.Fair.{IsFair, Point}
use Rattle.tcp_loop.specs.declared.clock.Clock.{Clock}
use Rattle.tcp_loop.specs.declared.hosts.Hosts.{Hosts}
use Rattle.tcp_loop.specs.declared.operation.Operation.{Operation}
use Rattle.tcp_loop.specs.declared.operation.Operation.TheVariants.{Accept, Poll}

-- a host gets a place without a connection, or is refused, once no connection that was found to be over has a place
pub record IsPlacedIn (place : ℕ) (trace : Trace) : Type 0 where
  pub unused : place < 40 → is_open place trace ≡ false
  pub alive : (other : ℕ) → other < 40 → is_open other trace ≡ true → is_over other trace ≡ false

-- at an operation that waits, nothing is owed to a host
abbrev pub OwesNothingAt : Operation → Trace → Type 0
OwesNothingAt (Poll watched milliseconds) trace = OwesNothing trace
OwesNothingAt (Accept place) trace = IsPlacedIn place trace
OwesNothingAt _ trace = Unit {0}

-- so it was at each operation of a trace
abbrev pub NeverOwes : Trace → Type 0
NeverOwes [] = Unit {0}
NeverOwes (m ∷ trace) = OwesNothingAt m.asked trace × NeverOwes trace

module _ {State : Type 0} (m : Meaning State) where
  -- what holds of a loop after one trace, of which this is known, holds after another
  abbrev pub HoldsOn : Trace → Phase → KeptState State → List (List ℕ) → Clock → Trace → Phase → KeptState State → List (List ℕ) → Clock
      → Type 0
  HoldsOn trace phase now waiting clock trace' phase' now' waiting' clock' =
      (opened : List Call) (begun : State) → Holds m opened begun trace phase now waiting clock
      → Holds m opened begun trace' phase' now' waiting' clock'

module _ {State : Type 0} (m : Meaning State) (free : State → Option ℕ) where
  -- a trace owes what is left to be done, and nothing was owed at each wait
  pub record NeverOwesMore (o : IsOrderly m free) (p : Point) (trace : Trace) (h : Hosts) (waiting : List (List ℕ)) (s : State) : Type 0 where
    pub fair : IsFair m free o p trace h waiting s
    pub never : NeverOwes trace

  abbrev pub FairOn : Trace → Point → Hosts → List (List ℕ) → KeptState State → Trace → Point → Hosts → List (List ℕ) → KeptState State
      → Type 0
  FairOn trace p h waiting now trace' p' h' waiting' now' =
      (o : IsOrderly m free) → NeverOwesMore o p trace h waiting now.state → NeverOwesMore o p' trace' h' waiting' now'.state
