-- What comes on a connection, however it is cut into pieces (NVMe over TCP Transport 1.0, 3.6: a stream of PDUs).
use Rattle.std.specs.Prelude.{ℕ, ◌≡◌, ◌+◌, List, ◌++◌}
use Rattle.tcp_connection.specs.declared.expected.Progress.{Progress}
use Rattle.tcp_connection.specs.declared.expected.Progress.TheVariants.{Partial, Whole, Failed}
use Rattle.tcp_connection.specs.Receiving as receiving
use Rattle.tcp_target.specs.Places.{PlaceState}
use Rattle.tcp_target.specs.PlaceEvents.{received}

-- where a piece of the stream ends: within a PDU, or at one that is whole or in which a check fails
abbrev pub end_of : List ℕ → PlaceState → Progress
end_of piece p = (receiving.taken p.connection.receiver piece).0.progress

-- what two pieces come to, what the first of them does, and what both do at once: a piece that ends within a PDU comes, with the one
-- behind it, to what both come to at once; what stands behind a PDU that is whole, or in which a check fails, changes nothing
abbrev pub JoinsAt : {A : Type 0} → Progress → A → A → A → Type 0
JoinsAt Partial both first once = both ≡ once
JoinsAt (Whole pdu) both first once = first ≡ once
JoinsAt (Failed error) both first once = first ≡ once

-- a place behind one piece and another, and how many bytes of them are taken
abbrev pub received_both : List ℕ → List ℕ → PlaceState → PlaceState × ℕ
received_both first second p = let one = received first p in let two = received second one.0 in (two.0, one.1 + two.1)

-- so what is sent, how much is taken, and what a connection comes to don't depend on how its stream is cut, with back pressure too
abbrev pub PlacePiecesJoin : Type 0
PlacePiecesJoin =
    (first second : List ℕ) (p : PlaceState)
    → JoinsAt (end_of first p) (received_both first second p) (received first p) (received (first ++ second) p)
