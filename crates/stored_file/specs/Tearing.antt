-- What is known of a file on a disk that tears.
use Rattle.std.specs.Prelude.{◌≡◌, ℕ, List}
use Rattle.stored_file.specs.File.{FileState}
use Rattle.stored_file.specs.Unsynced.{state_of}
use Rattle.stored_file.specs.declared.tearing_file.TearingFile.{TearingFile}

abbrev pub told_of : TearingFile → FileState
told_of file = state_of file.first.items file.changes.items file.bytes.items

-- a file of these bytes that nothing has changed: all of them are on the disk
abbrev pub IsUnchanged : FileState → List ℕ → Type 0
IsUnchanged file bytes =
    (file.seen ≡ bytes) × (file.moment ≡ 0) × ((c : List ℕ) → file.left_since 0 c → c ≡ bytes) × ((c : List ℕ) → file.once_synced c → c ≡ bytes)
