-- The order in which the commands of a connection go (NVMe Base 2.0, 3.3.3).
use Rattle.std.specs.Prelude.{ℕ, ◌≡◌, Bool, false, ◌&&◌, List, [], ◌∷◌, ◌++◌, take, drop, map, Option, Some, None, is_ok, is_some, if◌then◌else◌}
use Rattle.tcp_pdus.specs.declared.received.HostPdu.TheVariants.{IcReq, H2cTermReq, CapsuleCmd, H2cData}
use Rattle.tcp_connection.specs.declared.expected.Progress.{Progress}
use Rattle.tcp_connection.specs.declared.expected.Progress.TheVariants.{Partial, Whole, Failed}
use Rattle.tcp_connection.specs.Receiving as receiving
use Rattle.tcp_pdus.specs.Direction.{identifier_of}
use Rattle.tcp_connection.specs.declared.queue.Outcome.{Outcome}
use Rattle.tcp_connection.specs.declared.state.ConnectionState.{ConnectionState}
use Rattle.tcp_connection.specs.Connection.{begun, taken, takes}
use Rattle.tcp_connection.specs.Dealing.{checked, may_come}
use Rattle.tcp_connection.specs.Executing.{Execution, completed, gone, ready}
use Rattle.tcp_connection.specs.Queue.{is_ended}

-- ---- what happens on a connection

-- a piece of its stream comes, of which it takes what it takes; the command that is ready goes; or one that went is completed
pub data Happening : Type 0 where
  Came : (piece : List ℕ) → Happening
  Went : Happening
  Completed : (command : ℕ) (outcome : Outcome) (bytes : List ℕ) → Happening

abbrev pub after : Happening → ConnectionState → ConnectionState
after (Came piece) s = (taken s piece).state
after Went s = if is_some (ready s) then (gone s).0 else s
after (Completed command outcome bytes) s = (completed command outcome bytes s).0

-- one behind another, of which the first stands first
abbrev pub after_all : List Happening → ConnectionState → ConnectionState
after_all [] s = s
after_all (happening ∷ later) s = after_all later (after happening s)

-- ---- the entries that come

-- a capsule's entry passes where the queue has room for it, no command has its identifier, and its descriptor is one of such a capsule
abbrev pub passes : List ℕ → ConnectionState → Bool
passes entry s = may_come (identifier_of entry) s && is_ok (checked entry s)

-- so a capsule that has come whole brings an entry, or none, where it doesn't pass; no other PDU brings one
abbrev pub brought_by : Progress → ConnectionState → List (List ℕ)
brought_by Partial s = []
brought_by (Whole IcReq) s = []
brought_by (Whole H2cTermReq) s = []
brought_by (Whole CapsuleCmd) s =
    let entry = drop 8 (take 72 s.receiver.pending) in if passes entry s then entry ∷ [] else []
brought_by (Whole H2cData) s = []
brought_by (Failed error) s = []

-- a piece is taken up to the end of a PDU, where it is taken
abbrev pub received : List ℕ → ConnectionState → ConnectionState
received piece s = record s { receiver = (receiving.taken s.receiver piece).0 }

abbrev pub brought : List ℕ → ConnectionState → List (List ℕ)
brought piece s = if takes s then brought_by (received piece s).receiver.progress (received piece s) else []

abbrev pub came_by : Happening → ConnectionState → List (List ℕ)
came_by (Came piece) s = brought piece s
came_by Went s = []
came_by (Completed command outcome bytes) s = []

-- the entries that came, in the order of their capsules
abbrev pub came_in : List Happening → ConnectionState → List (List ℕ)
came_in [] s = []
came_in (happening ∷ later) s = came_by happening s ++ came_in later (after happening s)

-- ---- the entries that go

abbrev pub entry_of : Option Execution → List (List ℕ)
entry_of None = []
entry_of (Some execution) = execution.entry ∷ []

abbrev pub went_by : Happening → ConnectionState → List (List ℕ)
went_by (Came piece) s = []
went_by Went s = entry_of (ready s)
went_by (Completed command outcome bytes) s = []

-- the entries of the commands that went, in the order in which they did
abbrev pub went_in : List Happening → ConnectionState → List (List ℕ)
went_in [] s = []
went_in (happening ∷ later) s = went_by happening s ++ went_in later (after happening s)

-- ---- their order

-- the entries of the commands that wait
abbrev pub waiting_in : ConnectionState → List (List ℕ)
waiting_in s = map (λ w. w.entry) s.commands.waiting

-- from one state of a connection to a later one the commands that went are the first of those that waited and of those that came, in
-- this order, each once; the rest of these wait now, unless the connection has ended, which forgets them
pub record GoInOrder (went came : List (List ℕ)) (old new : ConnectionState) : Type 0 where
  pub rest : List (List ℕ)
  pub order : went ++ rest ≡ waiting_in old ++ came
  pub wait : is_ended new.phase ≡ false → rest ≡ waiting_in new

-- it has dealt with each PDU that came whole; after its end nothing is dealt with
abbrev pub IsSettled : ConnectionState → Type 0
IsSettled s = is_ended s.phase ≡ false → s.receiver.progress ≡ Partial

-- the commands went in order, and will
pub record KeepsOrder (went came : List (List ℕ)) (old new : ConnectionState) : Type 0 where
  pub order : GoInOrder went came old new
  pub settled : IsSettled new

-- so from its beginning on, whatever happens, its commands go in the order of their capsules, whether data is in these or not
pub record CommandsGoInOrder : Type 0 where
  pub begins : IsSettled begun
  pub go : (happenings : List Happening) (s : ConnectionState) → IsSettled s
      → KeepsOrder (went_in happenings s) (came_in happenings s) s (after_all happenings s)
