-- What comes on connections, however it is cut into pieces.
use Rattle.std.specs.Prelude.{ℕ, ◌≡◌, ◌≢◌, ◌+◌, List, ◌∷◌, ◌++◌}
use Rattle.tcp_connection.specs.declared.expected.Progress.{Progress}
use Rattle.tcp_connection.specs.declared.expected.Progress.TheVariants.{Partial}
use Rattle.tcp_target.specs.PlacePieces.{JoinsAt, end_of}
use Rattle.tcp_target.specs.Queues.{place_at}
use Rattle.tcp_target.specs.Events.{count_of, received}
use Rattle.tcp_device.specs.Deeds.{AreDone, Deed, Received}
use Rattle.tcp_device.specs.State.{ServedState, with_target}

-- where a piece of a connection's stream ends, and how many bytes of it are taken
abbrev pub end_in : ℕ → List ℕ → ServedState → Progress
end_in number piece s = end_of piece (place_at number s.target.queues)

abbrev pub taken_in : ℕ → List ℕ → ServedState → ℕ
taken_in number piece s = count_of number piece s.target

abbrev pub taken_both_in : ℕ → List ℕ → List ℕ → ServedState → ℕ
taken_both_in number first second s =
    taken_in number first s + taken_in number second (with_target (received number first s.target) s)

-- a piece that comes behind these deeds ends within a PDU, wherever they lead to; or at a PDU that is whole, or in which a check fails
abbrev pub EndsWithin : List Deed → ℕ → List ℕ → ServedState → Type 0
EndsWithin deeds number piece old = (between : ServedState) → AreDone deeds old between → end_in number piece between ≡ Partial

abbrev pub EndsAtPdu : List Deed → ℕ → List ℕ → ServedState → Type 0
EndsAtPdu deeds number piece old = (between : ServedState) → AreDone deeds old between → end_in number piece between ≢ Partial

-- two lists of deeds, from a state on and the last first, that differ only in how what comes is cut: two pieces of one connection come
-- at once, where the first ends within a PDU, and bytes that stand behind a PDU in a piece are left out
pub data DifferInCuts (old : ServedState) : List Deed → List Deed → Type 0 where
  same : (deeds : List Deed) → DifferInCuts old deeds deeds
  joined : (deeds : List Deed) (number : ℕ) (first second : List ℕ) → EndsWithin deeds number first old
      → DifferInCuts old (Received number second ∷ Received number first ∷ deeds) (Received number (first ++ second) ∷ deeds)
  left_out : (deeds : List Deed) (number : ℕ) (first second : List ℕ) → EndsAtPdu deeds number first old
      → DifferInCuts old (Received number (first ++ second) ∷ deeds) (Received number first ∷ deeds)
  followed : (deed : Deed) (deeds others : List Deed) → DifferInCuts old deeds others → DifferInCuts old (deed ∷ deeds) (deed ∷ others)
  turned : (deeds others : List Deed) → DifferInCuts old deeds others → DifferInCuts old others deeds
  chained : (deeds between others : List Deed) → DifferInCuts old deeds between → DifferInCuts old between others
      → DifferInCuts old deeds others

-- such lists lead to the same states, and so to the same bytes that are to be sent; and as many bytes of what comes are taken
pub record PiecesJoin : Type 0 where
  pub leads : (old new : ServedState) (deeds others : List Deed) → DifferInCuts old deeds others
      → AreDone deeds old new → AreDone others old new
  pub takes : (number : ℕ) (first second : List ℕ) (s : ServedState)
      → JoinsAt (end_in number first s) (taken_both_in number first second s) (taken_in number first s)
      (taken_in number (first ++ second) s)
