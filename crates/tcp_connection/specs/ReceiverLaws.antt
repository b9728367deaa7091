-- What holds of receivers.
use Rattle.std.specs.Prelude.{ℕ, ◌≡◌, ◌≢◌, ◌+◌, List, ◌++◌}
use Rattle.tcp_connection.specs.Transfers.{transfer_at}
use Rattle.tcp_connection.specs.Receiving.{ReceiverState, next, tag_in, taken}

-- two pieces, one after the other, leave a receiver as both at once do, and as many bytes of them are taken: so it doesn't matter how
-- a stream is cut
abbrev pub PiecesJoin : Type 0
PiecesJoin =
    (s : ReceiverState) (first second : List ℕ)
    → let one = taken s first in let two = taken one.0 second in (two.0, one.1 + two.1) ≡ taken s (first ++ second)

-- a piece changes nothing of what came for R2Ts, and a whole PDU only that of the tag which its header has
pub record TransfersStayApart : Type 0 where
  pub takes : (s : ReceiverState) (piece : List ℕ) → (taken s piece).0.expected ≡ s.expected
  pub others : (s : ReceiverState) (tag : ℕ) → tag ≢ tag_in s.pending
      → transfer_at tag (next s).expected.transfers ≡ transfer_at tag s.expected.transfers
