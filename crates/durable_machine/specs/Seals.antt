-- How a batch is sealed: for people, to whom damage is told. Nothing that a crash leaves rests on it.
use Rattle.std.specs.Prelude.{◌≡◌, ◌⊎◌, ◌<◌, ℕ, List, [], ◌∷◌, ◌++◌, length, drop}
use Rattle.std.specs.Int.{to_le_bytes, w32}
use Rattle.crc32c.specs.Crc.{sum_of}
use Rattle.durable_machine.specs.Events.{number_bytes}
use Rattle.durable_machine.specs.declared.batch.Batch.{Batch}

-- what seals a batch whose gate is at this offset, of which these bytes spell the events: a 254, the offset, how many bytes these are, and
-- the sum of both numbers and these bytes, the lowest byte first
unfoldable pub seal_of : ℕ → List ℕ → List ℕ
seal_of at told =
    254 ∷ number_bytes at ++ number_bytes (length told)
    ++ to_le_bytes w32 (sum_of (number_bytes at ++ number_bytes (length told) ++ told))

-- a batch that an earlier version of the format has isn't sealed; it has an event, which begins with a 1
abbrev pub IsSealOf : ℕ → List ℕ → List ℕ → Type 0
IsSealOf at told seal = (seal ≡ seal_of at told) ⊎ ((seal ≡ []) × (0 < length told))

-- so many bytes at the front of a payload are its seal's, by the first of them
abbrev pub HasSealLength : ℕ → List ℕ → Type 0
HasSealLength n payload =
    ((n ≡ 21) × (rest : List ℕ) × (payload ≡ 254 ∷ rest))
    ⊎ ((n ≡ 0) × ((rest : List ℕ) → payload ≡ 254 ∷ rest → ⊥))

-- what spells the events of a batch that isn't written yet: room for its seal stands before them
unfoldable pub events_of : Batch → List ℕ
events_of batch = drop 21 batch.bytes.items
