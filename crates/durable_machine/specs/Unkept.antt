-- What a crash leaves of what is kept nowhere.
use Rattle.std.specs.Prelude.{[]}
use Rattle.stored_file.specs.File.{FileState}

-- no file: a crash leaves nothing at any moment, and no disk fails
abbrev pub no_file : FileState
no_file = record { seen = []; moment = 0; left_since = λ t c. ⊥; once_synced = λ c. ⊥; faults = 0; made = [] }
