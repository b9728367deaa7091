-- A batch that is staged: it is on the disk, whole, and not counted yet, since its gate is closed.
use Rattle.std.specs.Prelude.{◌≡◌, ℕ, ◌+◌, List, ◌∷◌, ◌++◌, length}
use Rattle.stored_file.specs.File.{FileState, IsOnDisk, IsWhole}
use Rattle.durable_machine.specs.Events.{spelled, AreSized}
use Rattle.durable_machine.specs.Journal.{AreFrames, closed_gate, payload_length}
use Rattle.durable_machine.specs.Seals.{seal_of}

-- what is written after the closed gate at this offset for a batch: whole sectors, of the seal of its events, them and a 0 after them,
-- and a further closed gate
pub record IsPayload (at : ℕ) (added : List (List ℕ)) (bytes : List ℕ) : Type 0 where
  pub padding : List ℕ
  pub size :
      length (seal_of at (spelled added) ++ spelled added ++ 0 ∷ padding)
      ≡ payload_length (length (seal_of at (spelled added) ++ spelled added))
  pub parts : bytes ≡ (seal_of at (spelled added) ++ spelled added ++ 0 ∷ padding) ++ closed_gate

-- the file is the front, the batches and a closed gate, at this offset; after it a further batch stands whole, and a closed gate, at the
-- next offset, and room of any bytes; all of it is on the disk
pub record IsStaged (front : List ℕ) (batches : List (List (List ℕ))) (staged : List (List ℕ)) (gate next : ℕ) (file : FileState)
    : Type 0 where
  pub whole : IsWhole (length front)
  pub frames : List ℕ
  pub are : AreFrames (length front) batches frames
  pub sized : AreSized staged
  pub bytes : List ℕ
  pub payload : IsPayload gate staged bytes
  pub room : List ℕ
  pub parts : file.seen ≡ front ++ frames ++ (closed_gate ++ (bytes ++ room))
  pub ends : gate ≡ length (front ++ frames)
  pub goes_on : next ≡ gate + length bytes
  pub durable : IsOnDisk file

-- and it is so with some front, some batches and some batch after them
pub record HasStaged (gate next : ℕ) (file : FileState) : Type 0 where
  pub front : List ℕ
  pub batches : List (List (List ℕ))
  pub staged : List (List ℕ)
  pub rests : IsStaged front batches staged gate next file
