-- What comes of hosts, however it is cut into pieces.
use Rattle.std.specs.Prelude.{ℕ, ◌+◌, List, ◌++◌}
use Rattle.tcp_target.specs.PlacePieces.{JoinsAt, end_of}
use Rattle.tcp_target.specs.Queues.{place_at}
use Rattle.tcp_target.specs.Events.{count_of, received}
use Rattle.tcp_target.specs.Target.{TargetState}

-- a target behind a piece of a connection's stream, and how many bytes of it are taken
abbrev pub taken_on : ℕ → List ℕ → TargetState → TargetState × ℕ
taken_on number piece t = (received number piece t, count_of number piece t)

abbrev pub taken_both_on : ℕ → List ℕ → List ℕ → TargetState → TargetState × ℕ
taken_both_on number first second t =
    let one = taken_on number first t in let two = taken_on number second one.0 in (two.0, one.1 + two.1)

-- of each connection's stream two pieces come to what both come to at once, and what stands behind a PDU changes nothing
abbrev pub PiecesJoin : Type 0
PiecesJoin =
    (number : ℕ) (first second : List ℕ) (t : TargetState)
    → JoinsAt (end_of first (place_at number t.queues)) (taken_both_on number first second t) (taken_on number first t)
    (taken_on number (first ++ second) t)
