-- What is left to be done for hosts, at each point of a round.
use Rattle.std.specs.Prelude.{ℕ, ◌≡◌, ◌≤◌, ◌<◌, ◌||◌, true, false, List, [], ◌∷◌, Option, Some, None, if◌then◌else◌, slice_index_or}
use Rattle.tcp_loop.specs.Trace.{Made, Trace}
use Rattle.tcp_loop.specs.Sockets.{is_open}
use Rattle.tcp_loop.specs.Rounds.{OwesNothing, flag, is_over, owes_accept, owes_read, owes_write}
use Rattle.tcp_loop.specs.Deeds.{Meaning}
use Rattle.tcp_loop.specs.Orderly.{IsOrderly}
use Rattle.tcp_loop.specs.Keeping.{KeptState}
use Rattle.tcp_loop.specs.declared.hosts.Hosts.{Hosts}
use Rattle.tcp_loop.specs.declared.operation.Operation.{Operation}
use Rattle.tcp_loop.specs.declared.operation.Operation.TheVariants.{Accept, Poll}
use Rattle.tcp_loop.specs.declared.operation.Watched.{Watched}
use Rattle.tcp_loop.specs.declared.stage.Stage.{Stage}
use Rattle.tcp_loop.specs.declared.stage.Stage.TheVariants as stage

pub data Point : Type 0 where
  -- connections from this place on may be to be read
  Reads : (from : ℕ) → Point
  -- all are read, and those from this place on may be to be written
  Writes : (from : ℕ) → Point
  -- all are written, and some may be to be closed
  Closes : Point
  -- all are closed, and so many hosts may be taken
  Accepts : (more : ℕ) → Point
  -- one is taken
  Takes : Point
  -- nothing is owed
  Tells : Point
  -- and the program isn't to end
  Begins : Point
  -- so it is, and this is watched
  Waits : (watched : Watched) → Point
  -- the program ends
  Over : Point

abbrev pub point_of : Stage → Point
point_of (stage.Polling watched milliseconds) = Waits watched
point_of stage.Signalled = Reads 0
point_of (stage.Reading place) = Reads place
point_of stage.Timing = Writes 0
point_of (stage.Calling call) = Writes 0
point_of (stage.Placing part) = Writes 0
point_of stage.Called = Writes 0
point_of (stage.Writing place) = Writes place
point_of (stage.Closing place) = Closes
point_of (stage.Accepting place more) = Takes
point_of (stage.Refusing more) = Accepts more
point_of (stage.Telling cause fails) = if fails then Over else Tells
point_of (stage.Ended done) = Over

-- ---- what is to be done

-- a connection is to be read, of which these bytes wait
pub record ToRead (place : ℕ) (h : Hosts) (waiting : List (List ℕ)) : Type 0 where
  pub ready : flag place h.ready.reads ≡ true
  pub there : flag place h.there ≡ true
  pub alive : flag place h.lost ≡ false
  pub empty : slice_index_or waiting place [] ≡ []

-- one is to be written, on which these bytes are to be sent
pub record ToWrite (place : ℕ) (h : Hosts) (bytes : List ℕ) : Type 0 where
  pub there : flag place h.there ≡ true
  pub alive : flag place h.lost ≡ false
  pub takes : flag place h.full ≡ false
  pub some : bytes ≡ [] → ⊥

-- a host is to be taken
pub record ToAccept (h : Hosts) : Type 0 where
  pub ready : h.ready.accepts ≡ true
  pub accepts : h.accepts ≡ true
  pub goes_on : h.ends ≡ false

-- one is to be closed
pub record ToClose (place : ℕ) (h : Hosts) : Type 0 where
  pub there : flag place h.there ≡ true
  pub over : flag place h.lost ≡ true

-- the first place from one on of which something holds, if there is one
abbrev pub IsFirst : (ℕ → Type 0) → ℕ → Option ℕ → Type 0
IsFirst P from (Some place) = (from ≤ place) × (place < 40) × ((other : ℕ) → from ≤ other → other < place → P other → ⊥)
IsFirst P from None = (other : ℕ) → from ≤ other → other < 40 → P other → ⊥

-- ---- what may be left of it

abbrev pub ReadLeft : Point → ℕ → Hosts → List (List ℕ) → Type 0
ReadLeft (Reads from) place h waiting = (from ≤ place) × ToRead place h waiting
ReadLeft Over place h waiting = Unit {0}
ReadLeft _ place h waiting = ⊥

abbrev pub WriteLeft : Point → ℕ → Hosts → List ℕ → Type 0
WriteLeft (Reads from) place h bytes = ToWrite place h bytes
WriteLeft (Writes from) place h bytes = (from ≤ place) × ToWrite place h bytes
WriteLeft Over place h bytes = Unit {0}
WriteLeft _ place h bytes = ⊥

abbrev pub AcceptLeft : Point → Hosts → Type 0
AcceptLeft (Reads from) h = ToAccept h
AcceptLeft (Writes from) h = ToAccept h
AcceptLeft Closes h = ToAccept h
AcceptLeft (Accepts more) h = (0 < more) × ToAccept h
AcceptLeft Takes h = Unit {0}
AcceptLeft Over h = Unit {0}
AcceptLeft _ h = ⊥

abbrev pub CloseLeft : Point → ℕ → Hosts → Type 0
CloseLeft (Reads from) place h = Unit {0}
CloseLeft (Writes from) place h = Unit {0}
CloseLeft Closes place h = Unit {0}
CloseLeft Over place h = Unit {0}
CloseLeft _ place h = ToClose place h → ⊥

-- may the program be told to end by now?
abbrev pub GoesOn : Point → Hosts → Type 0
GoesOn Begins h = h.ends ≡ false
GoesOn (Waits watched) h = h.ends ≡ false
GoesOn _ h = Unit {0}

module _ {State : Type 0} (m : Meaning State) where
  -- what is watched of a connection: bytes that come where none of it wait, and room where something is to be sent
  pub record IsWatchedAt (watched : Watched) (h : Hosts) (waiting : List (List ℕ)) (s : State) (place : ℕ) : Type 0 where
    pub reads : flag place watched.reads ≡ true → (flag place h.there ≡ true) × (slice_index_or waiting place [] ≡ [])
    pub writes : flag place watched.writes ≡ true → (flag place h.there ≡ true) × (m.to_send place s ≡ [] → ⊥)
    pub all_read : flag place h.there ≡ true → slice_index_or waiting place [] ≡ [] → flag place watched.reads ≡ true
    pub all_written : flag place h.there ≡ true → (m.to_send place s ≡ [] → ⊥) → flag place watched.writes ≡ true

  -- what a loop watches, by what it knows
  pub record IsWatched (watched : Watched) (h : Hosts) (waiting : List (List ℕ)) (s : State) : Type 0 where
    pub places : (place : ℕ) → place < 40 → IsWatchedAt watched h waiting s place
    pub accepts : watched.accepts ≡ h.accepts

  abbrev pub Watching : Point → Hosts → List (List ℕ) → State → Type 0
  Watching (Waits watched) h waiting s = IsWatched watched h waiting s
  Watching _ h waiting s = Unit {0}

module _ {State : Type 0} (m : Meaning State) (free : State → Option ℕ) where
  -- what a trace owes is left to be done
  pub record IsFair (o : IsOrderly m free) (p : Point) (trace : Trace) (h : Hosts) (waiting : List (List ℕ)) (s : State) : Type 0 where
    pub known : (place : ℕ) → place < 40 → flag place h.there ≡ is_open place trace
    pub there : (place : ℕ) → place < 40 → o.is_there place s ≡ is_open place trace
    pub over : (place : ℕ) → place < 40 → is_over place trace ≡ true → flag place h.lost ≡ true
    pub reads : (place : ℕ) → place < 40 → owes_read place trace ≡ true → ReadLeft p place h waiting
    pub writes : (place : ℕ) → place < 40 → owes_write place trace ≡ true → WriteLeft p place h (m.to_send place s)
    pub accepts : owes_accept trace ≡ true → AcceptLeft p h
    pub closes : (place : ℕ) → place < 40 → CloseLeft p place h
    pub goes_on : GoesOn p h
    pub watching : Watching m p h waiting s

  -- so it is still, whatever was done before
  abbrev pub Fairly : Point → Hosts → List (List ℕ) → KeptState State → Point → Hosts → List (List ℕ) → KeptState State → Type 0
  Fairly p h waiting now p' h' waiting' now' =
      (o : IsOrderly m free) (trace : Trace) → IsFair o p trace h waiting now.state → IsFair o p' trace h' waiting' now'.state

  -- so it is once an operation is made
  abbrev pub FairlyMakes : Made → Point → Hosts → List (List ℕ) → KeptState State → Point → Hosts → List (List ℕ) → KeptState State → Type 0
  FairlyMakes made p h waiting now p' h' waiting' now' =
      (o : IsOrderly m free) (trace : Trace) → IsFair o p trace h waiting now.state → IsFair o p' (made ∷ trace) h' waiting' now'.state

  -- ---- the law

  -- each connection is watched, for bytes where none wait of it, and for room where something is to be sent
  pub record Watches (watched : Watched) (trace : Trace) (waiting : List (List ℕ)) (s : State) : Type 0 where
    pub reads : (place : ℕ) → place < 40 → is_open place trace ≡ true → slice_index_or waiting place [] ≡ []
        → flag place watched.reads ≡ true
    pub writes : (place : ℕ) → place < 40 → is_open place trace ≡ true → (m.to_send place s ≡ [] → ⊥)
        → flag place watched.writes ≡ true

  -- a host gets a place that is free, and is refused only while each has a connection that wasn't found to be over, or is held
  pub record IsPlaced (o : IsOrderly m free) (place : ℕ) (trace : Trace) (s : State) : Type 0 where
    pub unused : place < 40 → is_open place trace ≡ false
    pub none : 40 ≤ place → (other : ℕ) → other < 40 → (is_open other trace || o.is_held other s) ≡ true
    pub alive : (other : ℕ) → other < 40 → is_open other trace ≡ true → is_over other trace ≡ false

  -- at a wait nothing is owed, and each connection is watched; and a host is taken into a place that is free
  abbrev pub IsFairTo : IsOrderly m free → Operation → Trace → List (List ℕ) → State → Type 0
  IsFairTo o (Poll watched milliseconds) trace waiting s = OwesNothing trace × Watches watched trace waiting s
  IsFairTo o (Accept place) trace waiting s = IsPlaced o place trace s
  IsFairTo o _ trace waiting s = Unit {0}
