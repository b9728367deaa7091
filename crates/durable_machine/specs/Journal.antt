-- What a file stands for that has a journal after its front.
use Rattle.std.specs.Prelude.{◌≡◌, ◌⊎◌, ◌<◌, ◌≤◌, ℕ, ◌+◌, ◌*◌, ◌/◌, List, [], ◌∷◌, ◌++◌, length, replicate}
use Rattle.stored_file.specs.File.{FileState, IsOnDisk, IsWhole}
use Rattle.durable_machine.specs.Events.{spelled, AreSized}
use Rattle.durable_machine.specs.Seals.{IsSealOf}

-- a closed gate: a sector in which nothing was ever written
unfoldable pub closed_gate : List ℕ
closed_gate = replicate {A = ℕ} 4096 0

-- an open one: a sector in which something was. It is written all over, so that it takes more than a few changed bytes to close it again
pub record IsOpenGate (sector : List ℕ) : Type 0 where
  pub size : length sector ≡ 4096
  pub written : sector ≡ closed_gate → ⊥

-- the whole sectors for n bytes, and at least one more
abbrev pub payload_length : ℕ → ℕ
payload_length n = (n / 4096 + 1) * 4096

-- the frame of a batch whose gate is at this offset: a sector with an open gate, and after it whole sectors, of the seal of the events,
-- them and a 0 after them
pub record IsFrame (at : ℕ) (events : List (List ℕ)) (frame : List ℕ) : Type 0 where
  pub sized : AreSized events
  pub sector : List ℕ
  pub is_open : IsOpenGate sector
  pub seal : List ℕ
  pub sealed : IsSealOf at (spelled events) seal
  pub padding : List ℕ
  pub size : length (seal ++ spelled events ++ 0 ∷ padding) ≡ payload_length (length (seal ++ spelled events))
  pub parts : frame ≡ sector ++ (seal ++ spelled events ++ 0 ∷ padding)

-- frames of batches, one after another, from this offset on
abbrev pub AreFrames : ℕ → List (List (List ℕ)) → List ℕ → Type 0
AreFrames at [] bytes = bytes ≡ []
AreFrames at (batch ∷ batches) bytes =
    (frame : List ℕ) × (behind : List ℕ) × IsFrame at batch frame × AreFrames (at + length frame) batches behind × (bytes ≡ frame ++ behind)

-- a batch stands whole at the front of bytes, which begin at this offset, and this rest after it
pub record BeginsBatch (at : ℕ) (events : List (List ℕ)) (rest bytes : List ℕ) : Type 0 where
  pub frame : List ℕ
  pub is : IsFrame at events frame
  pub parts : bytes ≡ frame ++ rest

-- a batch stands whole at the front of bytes, of which these are its events as they are spelled, after so many bytes, and this rest
-- after it
abbrev pub GivesBatch : ℕ → ℕ → List ℕ → List ℕ → List ℕ → Type 0
GivesBatch at place told rest bytes =
    (events : List (List ℕ)) × (told ≡ spelled events)
    × (begins : BeginsBatch at events rest bytes) × (place ≡ 4096 + length begins.is.seal)

-- no batch does
abbrev pub BeginsNoBatch : ℕ → List ℕ → Type 0
BeginsNoBatch at bytes = (events : List (List ℕ)) (rest : List ℕ) → BeginsBatch at events rest bytes → ⊥

-- a closed gate stands at the front of bytes
abbrev pub BeginsClosed : List ℕ → Type 0
BeginsClosed bytes = (behind : List ℕ) × (bytes ≡ closed_gate ++ behind)

-- a crash may leave this after the last batch: a closed gate, with anything after it, or no more than the sector that was being written
-- there
abbrev pub IsEnd : List ℕ → Type 0
IsEnd bytes = BeginsClosed bytes ⊎ (length bytes ≤ 4096)

-- and it doesn't leave this: a gate that isn't closed and more than its sector, where no batch stands whole and sealed
pub record IsDamage (at : ℕ) (bytes : List ℕ) : Type 0 where
  pub not_closed : BeginsClosed bytes → ⊥
  pub longer : 4096 < length bytes
  pub nothing : BeginsNoBatch at bytes

-- after this front the file has these batches, up to this offset, and then its end
pub record HasBatches (front : List ℕ) (batches : List (List (List ℕ))) (end : ℕ) (file : List ℕ) : Type 0 where
  pub frames : List ℕ
  pub are : AreFrames (length front) batches frames
  pub rest : List ℕ
  pub parts : file ≡ front ++ frames ++ rest
  pub last : IsEnd rest
  pub ends : end ≡ length (front ++ frames)

-- after this front the file has these batches, up to this offset, and then what no crash leaves
pub record IsDamagedAt (front : List ℕ) (batches : List (List (List ℕ))) (damaged : ℕ) (file : List ℕ) : Type 0 where
  pub frames : List ℕ
  pub are : AreFrames (length front) batches frames
  pub rest : List ℕ
  pub parts : file ≡ front ++ frames ++ rest
  pub damage : IsDamage damaged rest
  pub ends : damaged ≡ length (front ++ frames)

-- the file stands for these batches
abbrev pub StandsFor : List ℕ → List (List (List ℕ)) → List ℕ → Type 0
StandsFor front batches file = (end : ℕ) × HasBatches front batches end file

-- the file stands for these batches, with further ones or without
abbrev pub StandsWithOrWithout : List ℕ → List (List (List ℕ)) → List (List (List ℕ)) → List ℕ → Type 0
StandsWithOrWithout front before more file = StandsFor front before file ⊎ StandsFor front (before ++ more) file

-- the file is the front, the batches and a closed gate, at this offset, and room of any bytes after it; all of it is on the
-- disk
pub record IsAt (front : List ℕ) (batches : List (List (List ℕ))) (gate : ℕ) (file : FileState) : Type 0 where
  pub whole : IsWhole (length front)
  pub frames : List ℕ
  pub are : AreFrames (length front) batches frames
  pub room : List ℕ
  pub parts : file.seen ≡ front ++ frames ++ (closed_gate ++ room)
  pub ends : gate ≡ length (front ++ frames)
  pub durable : IsOnDisk file

-- and it is so with some front and some batches
pub record IsSettled (gate : ℕ) (file : FileState) : Type 0 where
  pub front : List ℕ
  pub batches : List (List (List ℕ))
  pub rests : IsAt front batches gate file
