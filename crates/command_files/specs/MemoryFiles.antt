-- Files in memory.
use Rattle.std.specs.Prelude.{◌≡◌, ℕ, List, [], ◌∷◌, ◌++◌, map, reverse, find, true, false, Option, option_map, string_bytes, bytes_eq, unwrap_or}
use Rattle.placed_file.specs.Placing.{Attempt}
use Rattle.placed_file.specs.declared.progress.Progress.{Progress}
use Rattle.command_files.specs.Made.{HasReplaced, Made}
use Rattle.command_files.specs.declared.memory_files.NamedFile.{NamedFile}

-- the files that were made, in order
abbrev pub made_of : List NamedFile → List Made
made_of files = map (λ file. record { path = string_bytes file.path; bytes = file.bytes.items }) files

-- a file in memory has its name with all of its bytes
abbrev pub whole : Progress
whole = record { synced = true; tried = true; named = true; early = false; settled = true }

-- each of these files was given its name, of which the last stands first here
abbrev pub tried_of : List Made → List Attempt
tried_of files = map (λ file. record { path = file.path; bytes = file.bytes; progress = whole; done = true }) (reverse files)

-- the last of these files that has this name
abbrev pub last_named : List NamedFile → List ℕ → Option NamedFile
last_named files path = find (λ file. bytes_eq (string_bytes file.path) path) (reverse files)

-- its bytes
abbrev pub bytes_named : List NamedFile → List ℕ → Option (List ℕ)
bytes_named files path = option_map (λ file. file.bytes.items) (last_named files path)

-- its permission bits
abbrev pub mode_named : List NamedFile → List ℕ → Option ℕ
mode_named files path = option_map (λ file. file.mode) (last_named files path)

-- a file of this name and these bytes is made behind the others
abbrev pub HasPut : List ℕ → List ℕ → List NamedFile → List NamedFile → Type 0
HasPut path bytes old new = made_of new ≡ made_of old ++ record { path = path; bytes = bytes } ∷ []

-- one of the bytes that the name had, none where no file had it, and these behind them
abbrev pub HasAdded : List ℕ → List ℕ → List NamedFile → List NamedFile → Type 0
HasAdded path bytes old new = HasPut path (unwrap_or (bytes_named old path) [] ++ bytes) old new

-- this name has these bytes now, and each other name what it had
abbrev pub HasReplacedIn : List ℕ → List ℕ → List NamedFile → List NamedFile → Type 0
HasReplacedIn path bytes old new = HasReplaced path bytes (bytes_named old) (bytes_named new)
