-- What a program emits: frames (profile).
use Rattle.std.specs.Prelude.{ℕ, ◌≡◌, ◌<◌, ◌≤◌, List, ◌++◌, length}
use Rattle.std.specs.List.{AllByRecursion, flat_map}
use Rattle.byteorder.specs.Endian.{little_bytes}
use Rattle.program_interface.specs.declared.frame.TheConstants.{FRAME_LENGTH_BYTES}

-- a record as a frame: its length in two bytes, the lower first, and its bytes
abbrev pub frame : List ℕ → List ℕ
frame bytes = little_bytes FRAME_LENGTH_BYTES (length bytes) ++ bytes

-- records as a group: their frames in order
abbrev pub frames : List (List ℕ) → List ℕ
frames records = flat_map frame records

-- bytes that are a group of so many whole frames, none of a record without bytes, and have at most a limit in all
pub record IsGroup (limit count : ℕ) (group : List ℕ) : Type 0 where
  pub records : List (List ℕ)
  pub whole : group ≡ frames records
  pub number : length records ≡ count
  pub some : AllByRecursion (λ bytes. 0 < length bytes) records
  pub within : length group ≤ limit
