-- What holds of connections.
use Rattle.std.specs.Prelude.{ℕ, Bool, ◌≡◌, ◌+◌, ◌==◌, false, List, [], ◌∷◌, ◌++◌, drop, map, Option, Some, None, if◌then◌else◌}
use Rattle.std.specs.List.{list_any}
use Rattle.tcp_connection.specs.declared.expected.Progress.{Progress}
use Rattle.tcp_connection.specs.declared.expected.Progress.TheVariants.{Partial, Whole, Failed}
use Rattle.tcp_connection.specs.Receiving.{ReceiverState, tag_in}
use Rattle.tcp_connection.specs.Receiving as receiving
use Rattle.tcp_connection.specs.Transfers.{Transfer, transfer_at}
use Rattle.tcp_pdus.specs.declared.received.HostPdu.TheVariants.{IcReq, H2cTermReq, CapsuleCmd, H2cData}
use Rattle.tcp_pdus.specs.Direction.{identifier_of}
use Rattle.tcp_connection.specs.declared.queue.Outcome.{Outcome}
use Rattle.tcp_connection.specs.declared.state.ConnectionState.{ConnectionState}
use Rattle.tcp_connection.specs.Commands.{CommandsState, WaitingCommand, first_of}
use Rattle.tcp_connection.specs.Connection.{Step, begun, taken}
use Rattle.tcp_connection.specs.Connection as connection
use Rattle.tcp_connection.specs.Executing.{completed, gone}
use Rattle.tcp_connection.specs.Order.{Came, Completed, Happening, Went, after, received}

-- one step behind another
abbrev pub both : Step → Step → Step
both one two = record { state = two.state; sent = one.sent ++ two.sent; count = one.count + two.count }

-- a piece that ends within a PDU comes, with the one behind it, to what both at once come to; and what stands behind a PDU that comes
-- whole, or in which a check fails, changes nothing of what that comes to
abbrev pub JoinsAt : Progress → ConnectionState → List ℕ → List ℕ → Type 0
JoinsAt Partial s first second = let one = taken s first in both one (taken one.state second) ≡ taken s (first ++ second)
JoinsAt (Whole pdu) s first second = taken s first ≡ taken s (first ++ second)
JoinsAt (Failed error) s first second = taken s first ≡ taken s (first ++ second)

-- so what a connection comes to, and what it sends, doesn't depend on how its stream is cut into pieces
abbrev pub StepsJoin : Type 0
StepsJoin =
    (s : ConnectionState) (first second : List ℕ) → JoinsAt (receiving.taken s.receiver first).0.progress s first second

-- ---- identifiers

-- the identifiers of the commands without a completion
abbrev pub identifiers_of : CommandsState → List ℕ
identifiers_of c = c.running ++ map (λ w. identifier_of w.entry) c.waiting

-- no two are the same
abbrev pub Differ : List ℕ → Type 0
Differ [] = Unit {0}
Differ (one ∷ others) = (list_any (λ other. other == one) others ≡ false) × Differ others

-- no two commands without a completion have one identifier: not at first, nor behind whatever comes
pub record IdentifiersDiffer : Type 0 where
  pub begins : Differ (identifiers_of begun.commands)
  pub takes : (s : ConnectionState) (piece : List ℕ) → Differ (identifiers_of s.commands)
      → Differ (identifiers_of (taken s piece).state.commands)
  pub goes : (s : ConnectionState) → Differ (identifiers_of s.commands) → Differ (identifiers_of (gone s).0.commands)
  pub completes : (s : ConnectionState) (command : ℕ) (outcome : Outcome) (bytes : List ℕ) → Differ (identifiers_of s.commands)
      → Differ (identifiers_of (completed command outcome bytes s).0.commands)

-- so a command is completed once: what completes it again sends nothing
abbrev pub CompletedOnce : Type 0
CompletedOnce =
    (s : ConnectionState) (command : ℕ) (first second : Outcome) (bytes more : List ℕ) → Differ (identifiers_of s.commands)
    → (completed command second more (completed command first bytes s).0).1 ≡ []

-- ---- R2Ts

-- the data that a whole PDU brings for a tag
abbrev pub sent_by : Progress → ℕ → ReceiverState → List ℕ
sent_by Partial tag r = []
sent_by (Whole IcReq) tag r = []
sent_by (Whole H2cTermReq) tag r = []
sent_by (Whole CapsuleCmd) tag r = []
sent_by (Whole H2cData) tag r = if tag_in r.pending == tag then drop 24 r.pending else []
sent_by (Failed error) tag r = []

abbrev pub sent_for : ℕ → Happening → ConnectionState → List ℕ
sent_for tag (Came piece) s =
    if connection.takes s then (let r = (received piece s).receiver in sent_by r.progress tag r) else []
sent_for tag Went s = []
sent_for tag (Completed command outcome bytes) s = []

-- the command is the one that goes
abbrev pub is_first : ℕ → Option WaitingCommand → Bool
is_first command None = false
is_first command (Some first) = command == identifier_of first.entry

abbrev pub has_it_go : Happening → ℕ → ConnectionState → Bool
has_it_go (Came piece) command s = false
has_it_go Went command s = is_first command (first_of s.commands)
has_it_go (Completed command outcome bytes) other s = false

-- until the command of an R2T goes, the R2T stays under way, and the data that comes for its tag joins what came for it before: so no
-- other data does
abbrev pub TransfersAreKept : Type 0
TransfersAreKept =
    (happening : Happening) (s : ConnectionState) (tag : ℕ) (t : Transfer) → transfer_at tag s.receiver.expected.transfers ≡ Some t
    → has_it_go happening t.wanted.command s ≡ false
    → transfer_at tag (after happening s).receiver.expected.transfers ≡ Some (record t { came = t.came ++ sent_for tag happening s })
