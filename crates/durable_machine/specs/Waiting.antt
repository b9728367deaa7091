-- What of a machine is committed, and what waits for it.
use Rattle.std.specs.Prelude.{◌≡◌, ◌⊎◌, ℕ, Bool, List}
use Rattle.stored_file.specs.File.{FileState}
use Rattle.durable_machine.specs.Events.{AreSized, spelled}
use Rattle.durable_machine.specs.Runs.{state_again}
use Rattle.durable_machine.specs.Files.{IsDurable, IsState}

module _ {S : Type 0} (loads : List ℕ → S → Type 0) (next : S → Bool → List ℕ → S) where
  -- a machine rests in the file, all of it on the disk, and the events that wait lead from it to this one, with memory given to each
  pub record IsCommittedBut (waiting : List ℕ) (machine : S) (gate : ℕ) (file : FileState) : Type 0 where
    pub committed : S
    pub durable : IsDurable loads next committed gate file
    pub events : List (List ℕ)
    pub sized : AreSized events
    pub are_spelled : waiting ≡ spelled events
    pub leads : machine ≡ state_again next events committed

  -- the file stands for one of two states
  abbrev pub IsEither : S → S → List ℕ → Type 0
  IsEither before after file = IsState loads next file before ⊎ IsState loads next file after
